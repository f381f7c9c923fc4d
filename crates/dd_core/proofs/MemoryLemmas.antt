-- A memory stays right while the store grows and entries come and go.
use Rattle.std.proofs.Common.{◌≡◌, ℕ, ◌<◌, List, [], length, Some, ◌∙◌, subst, arith, inl, inr}
use Rattle.dd_core.specs.declared.table.Node.{Node}
use Rattle.dd_cache.specs.declared.cache.OpKey.{OpKey}
use Rattle.dd_cache.specs.Memory.{found, recalled, kept}
use Rattle.dd_cache.proofs.Entries.{found_there, Contains-recalled, Contains-kept, Contains-none}
use Rattle.dd_core.specs.Store.{IsAbove, Extends, IsIte}
use Rattle.dd_core.specs.Remembering.{IsResult, IsMemory}
use Rattle.dd_core.proofs.ValueLemmas.{value_kept}
use Rattle.dd_core.proofs.StoreLemmas.{above_kept, length_kept, get_kept}

-- what is above a community in the larger store was so before
pub above_before : (old new : List Node) (c i : ℕ) → Extends old new → i < length old → IsAbove new c i → IsAbove old c i
above_before old new c i extends inside above = record { later = λ other high low at. above.later other high low (get_kept old new i extends inside ∙ at) }

pub remembered_extends : (old new : List Node) (key : OpKey) (place : ℕ) → Extends old new → IsResult old key place → IsResult new key place
remembered_extends old new key place extends r =
    let size = length_kept old new extends in
    let ia = r.a_inside in
    let ib = r.b_inside in
    let ic = r.c_inside in
    let ip = r.ite.inside in
    record {
      a_inside = omega arith;
      b_inside = omega arith;
      c_inside = omega arith;
      ite = record {
        inside = omega arith;
        value = λ has.
            let e = r.ite.value has in
            let ea = value_kept old new has key.a extends ia in
            let eb = value_kept old new has key.b extends ib in
            let ec = value_kept old new has key.c extends ic in
            let ep = value_kept old new has place extends ip in
            cc;
        above = λ d ha hb hc. above_kept old new d place extends ip
            (r.ite.above d (above_before old new d key.a extends ia ha) (above_before old new d key.b extends ib hb)
            (above_before old new d key.c extends ic hc));
      };
    }

pub memory_extends : (old new : List Node) (entries : List (OpKey × ℕ)) → Extends old new → IsMemory old entries → IsMemory new entries
memory_extends old new entries extends memory = record { each = λ key place there. remembered_extends old new key place extends (memory.each key place there) }

-- the result of an operation, in the store that it left
pub remembered_result : (old new : List Node) (key : OpKey) (place : ℕ) → Extends old new → key.a < length old → key.b < length old → key.c < length old →
    IsIte old new key.a key.b key.c place → IsResult new key place
remembered_result old new key place extends ia ib ic ite =
    let size = length_kept old new extends in
    record {
      a_inside = omega arith;
      b_inside = omega arith;
      c_inside = omega arith;
      ite = record {
        inside = ite.inside;
        value = λ has.
            let e = ite.value has in
            let ea = value_kept old new has key.a extends ia in
            let eb = value_kept old new has key.b extends ib in
            let ec = value_kept old new has key.c extends ic in
            cc;
        above = λ d ha hb hc. ite.above d (above_before old new d key.a extends ia ha) (above_before old new d key.b extends ib hb)
            (above_before old new d key.c extends ic hc);
      };
    }

-- a memory stays right where one more result is kept
pub memory_keep : (nodes : List Node) (entries : List (OpKey × ℕ)) (capacity : ℕ) (key : OpKey) (place : ℕ) → IsMemory nodes entries →
    IsResult nodes key place → IsMemory nodes (kept capacity key place entries)
memory_keep nodes entries capacity key place memory r = record {
  each = λ key' place' there. elim (Contains-kept key capacity place entries (key', place') there) [
    | inl old ↦ memory.each key' place' old
    | inr same ↦ subst (λ (e : OpKey × ℕ). IsResult nodes e.0 e.1) same r
  ];
}

pub memory_recalled : (nodes : List Node) (entries : List (OpKey × ℕ)) (key : OpKey) → IsMemory nodes entries → IsMemory nodes (recalled key entries)
memory_recalled nodes entries key memory = record { each = λ key' place there. memory.each key' place (Contains-recalled key entries (key', place) there) }

-- what is found is the result of the operation
pub memory_hit : (nodes : List Node) (entries : List (OpKey × ℕ)) (key : OpKey) (place : ℕ) → IsMemory nodes entries → found key entries ≡ Some place →
    IsIte nodes nodes key.a key.b key.c place
memory_hit nodes entries key place memory is = (memory.each key place (found_there key entries place is)).ite

pub memory_empty : (nodes : List Node) → IsMemory nodes []
memory_empty nodes = record { each = λ key place there. absurd (Contains-none (key, place) there) }
