-- What plain maps say, without the names of their lists and without line numbers, as keys of an index.
use Rattle.std.specs.Prelude.{ℕ, Bool, ◌&&◌, List, Option, map, nat_eq, bytes_eq, is_some}
use Rattle.std.specs.Bool.{beq}
use Rattle.std.specs.Global.{Vec}
use Rattle.std.specs.Option.{option_map, option_eq}
use Rattle.cfg_ast.specs.declared.policy.Change.{Change}
use Rattle.cfg_ast.specs.declared.policy.Change.TheVariants.{Clear, Replace, Append}
use Rattle.cfg_ast.specs.declared.policy.CommunityLine.{CommunityLine}
use Rattle.cfg_ast.specs.declared.policy.CommunityList.{CommunityList}
use Rattle.cfg_ast.specs.meaning.Classes.{same_items}
use Rattle.route_maps.specs.Same.{same_change}
use Rattle.route_maps.specs.declared.plain.Plain.{Plain}
use Rattle.route_maps.specs.declared.plain.PlainEntry.{PlainEntry}
use Rattle.config_emit.specs.declared.map_keys.ChangeKey.{ChangeKey}
use Rattle.config_emit.specs.declared.map_keys.ChangeKey.TheVariants as key
use Rattle.config_emit.specs.declared.map_keys.EntryKey.{EntryKey}
use Rattle.config_emit.specs.declared.map_keys.LineKey.{LineKey}
use Rattle.config_emit.specs.contracts.map_keys.EntryKeyPartialEq.TheImpl as entry_eq

-- ---- what maps say

abbrev pub LineSaid : Type 0
LineSaid = Bool × List ℕ

pub record EntrySaid : Type 0 where
  pub seq : ℕ
  pub permit : Bool
  pub exact : Bool
  pub lists : Option (List (List LineSaid))
  pub lp : Option ℕ
  pub change : Option Change
  pub delete : Option (List LineSaid)
  pub adds : ℕ

abbrev pub line_said : CommunityLine → LineSaid
line_said l = (l.permit, l.comms)

abbrev pub list_said : CommunityList → List LineSaid
list_said list = map line_said list.lines

abbrev pub lists_said : List CommunityList → List (List LineSaid)
lists_said lists = map list_said lists

abbrev pub entry_said : PlainEntry → EntrySaid
entry_said x = record {
  seq = x.seq;
  permit = x.permit;
  exact = is_some x.lists && x.exact;
  lists = option_map lists_said x.lists;
  lp = x.lp;
  change = x.change;
  delete = option_map list_said x.delete;
  adds = x.adds;
}

abbrev pub said_of_map : Plain → List EntrySaid
said_of_map m = map entry_said m.entries

-- ---- what keys show

abbrev pub line_shown : LineKey → LineSaid
line_shown k = (k.permit, k.comms.items)

abbrev pub list_shown : Vec LineKey → List LineSaid
list_shown k = map line_shown k.items

abbrev pub lists_shown : Vec (Vec LineKey) → List (List LineSaid)
lists_shown k = map list_shown k.items

abbrev pub change_shown : ChangeKey → Change
change_shown key.Clear = Clear
change_shown (key.Replace comms) = Replace comms.items
change_shown (key.Append comms) = Append comms.items

abbrev pub entry_shown : EntryKey → EntrySaid
entry_shown k = record {
  seq = k.seq;
  permit = k.permit;
  exact = k.exact;
  lists = option_map lists_shown k.lists;
  lp = k.lp;
  change =
      option_map change_shown k.change;
  delete = option_map list_shown k.delete;
  adds = k.adds;
}

abbrev pub shown : Vec EntryKey → List EntrySaid
shown k = map entry_shown k.items

-- ---- whether maps say the same

abbrev pub is_line : LineSaid → LineSaid → Bool
is_line a b = beq a.0 b.0 && bytes_eq a.1 b.1

abbrev pub is_list : List LineSaid → List LineSaid → Bool
is_list = same_items is_line

abbrev pub is_entry : EntrySaid → EntrySaid → Bool
is_entry a b =
    nat_eq a.seq b.seq && (beq a.permit b.permit && (beq a.exact b.exact && (option_eq (same_items is_list) a.lists b.lists
    && (option_eq nat_eq a.lp b.lp && (option_eq same_change a.change b.change && (option_eq is_list a.delete b.delete && nat_eq a.adds b.adds))))))

abbrev pub is_map : List EntrySaid → List EntrySaid → Bool
is_map = same_items is_entry

-- how `==` compares keys
abbrev pub same_keys : Vec EntryKey → Vec EntryKey → Bool
same_keys a b = same_items (entry_eq.ghosts).eq a.items b.items
