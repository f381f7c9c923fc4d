-- One more port, and one more cable.
use Rattle.std.proofs.Common.{◌≡◌, ◌≢◌, ℕ, ◌+◌, ◌<◌, ◌≤◌, List, [], ◌∷◌, ◌++◌, Vec, length, get_or, drop, flat_map, slice_index_or, slice_set, All, refl, ◌∙◌, ap, arith, inl, inr, append_assoc}
use Rattle.std.specs.Prelude.{Result, OnOk}
use Rattle.std.specs.List.{enumerate_from}
use Rattle.std.specs.declared.alloc.Global.{Global}
use Rattle.std.proofs.lemmas.Bool.{cases_eq}
use Rattle.std.proofs.lemmas.List.{get_or-set_same, get_or-set_other, get_or_read, append-nil}
use Rattle.std.proofs.lemmas.Result.{on_ok_weaker}
use Rattle.std.proofs.Math.ListN.{length-set}
use Rattle.base_kit.proofs.SetFacts.{same_number, other_number}
use Rattle.fat_gen.specs.declared.cable.Cable.{Cable}
use Rattle.fat_gen.specs.declared.cable.Port.{Port}
use Rattle.fat_gen.specs.Cables.{port_if, ports_on, ports_at}
use Rattle.fat_gen.specs.PortTables.{AreGrownBy, ArePortsByPlace}
use Rattle.fat_gen.proofs.Steps.{one_item, all_items}

abbrev Table : Type 0
Table = List (Vec Port Global)

port_here : (place at : ℕ) (port : Port) → place ≡ at → port_if place at port ≡ port ∷ []
port_here place at port same = rw (same_number place at same) refl

port_elsewhere : (place at : ℕ) (port : Port) → place ≢ at → port_if place at port ≡ []
port_elsewhere place at port other = rw (other_number place at other) refl

pub grown_at : (table : Table) (at : ℕ) (port : Port) (old new : Vec Port Global) → at < length table → old ≡ slice_index_or table at old →
    new.items ≡ old.items ++ port ∷ [] → AreGrownBy (λ place. port_if place at port) table (slice_set table at new)
grown_at table at port old new inside read pushed = record {
  total = length-set table at new;
  each = λ place none within. elim (cases_eq place at) [
    | inl same ↦ cc (get_or-set_same table at new none inside, get_or_read table at old inside read none, port_here place at port same)
    | inr other ↦
        cc (get_or-set_other table at place new none other, append-nil (slice_index_or table place none).items, port_elsewhere place at port other)
  ];
}

-- the place of the port has no list
pub grown_none : (table : Table) (at : ℕ) (port : Port) → length table ≤ at → AreGrownBy (λ place. port_if place at port) table table
grown_none table at port outside = record {
  total = refl;
  each = λ place none within.
      let other : place ≢ at = λ same. (let e : place ≡ at = same in omega arith) in
      cc (append-nil (slice_index_or table place none).items, port_elsewhere place at port other);
}

grown_both : (first second : ℕ → List Port) (old middle new : Table) → AreGrownBy first old middle → AreGrownBy second middle new →
    AreGrownBy (λ place. first place ++ second place) old new
grown_both first second old middle new one two = record {
  total = two.total ∙ one.total;
  each = λ place none within.
      let total = one.total in
      let items = (slice_index_or old place none).items in
      cc (two.each place none (omega arith), one.each place none within, append_assoc items (first place) (second place));
}

pub grown_twice : {T E : Type 0} (r : Result T E) (first second : ℕ → List Port) (old middle new : Table) → AreGrownBy first old middle →
    OnOk r (AreGrownBy second middle new) → OnOk r (AreGrownBy (λ place. first place ++ second place) old new)
grown_twice r first second old middle new one second_one =
    on_ok_weaker r (λ (two : AreGrownBy second middle new). grown_both first second old middle new one two) second_one

-- the lists have the ports of the cables before this one, and lack those of the cables from it on
abbrev pub HavePortsBefore : ℕ → List Cable → Table → Type 0
HavePortsBefore i cables table = (place : ℕ) (none : Vec Port Global) → place < length table →
    (slice_index_or table place none).items ++ flat_map (ports_on place) (enumerate_from i (drop i cables)) ≡ ports_at place cables

pub none_before : (cables : List Cable) (table : Table) → All (λ ports. ports.items ≡ []) table → HavePortsBefore 0 cables table
none_before cables table empty place none inside =
    ap (λ (l : List Port). l ++ flat_map (ports_on place) (enumerate_from 0 cables)) (empty place none inside)

pub one_cable : (i : ℕ) (cables : List Cable) (cable d : Cable) (old new : Table) → i < length cables → cable ≡ get_or cables i d →
    AreGrownBy (λ place. ports_on place (i, cable)) old new → HavePortsBefore i cables old → HavePortsBefore (i + 1) cables new
one_cable i cables cable d old new inside is grown before place none within =
    let total = grown.total in
    one_item (ports_on place) i cables cable d (slice_index_or old place none).items (slice_index_or new place none).items (ports_at place cables) inside is
    (grown.each place none (omega arith)) (before place none (omega arith))

pub all_cables : (i : ℕ) (cables : List Cable) (table : Table) → length cables ≤ i → HavePortsBefore i cables table → ArePortsByPlace cables table
all_cables i cables table over before = record {
  each = λ place none inside. all_items (ports_on place) i cables (slice_index_or table place none).items (ports_at place cables) over
      (before place none inside);
}
