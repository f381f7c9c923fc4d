-- How values follow from the nodes.
use Rattle.std.proofs.Common.{◌≡◌, ℕ, ◌<◌, ◌+◌, Bool, false, List, [], ◌∷◌, ◌++◌, length, get_or, slice_get, Some, refl, sym, ◌∙◌, ap, arith}
use Rattle.std.specs.Prelude.{if◌then◌else◌}
use Rattle.std.proofs.Math.Seq.{split_at}
use Rattle.std.proofs.Common.{take, drop, suc}
use Rattle.std.proofs.lemmas.List.{length-take-le, length_push, get_or_append_left, get_or_push}
use Rattle.dd_core.specs.declared.table.Node.{Node}
use Rattle.dd_core.specs.declared.table.Node.TheVariants.{Constant, Choice}
use Rattle.dd_core.specs.Value.{node_value, values_after, value}
use Rattle.dd_core.specs.Store.{Extends}
use Rattle.distinct_values.proofs.Interned.{read_get}

pub length-values_after : (has : ℕ → Bool) (values : List Bool) (nodes : List Node) → length (values_after has values nodes) ≡ length values + length nodes
length-values_after has values [] = omega arith
length-values_after has values (node ∷ nodes) =
    let rest = length-values_after has (values ++ node_value has values node ∷ []) nodes in
    let more = length_push values (node_value has values node) in
    omega arith

-- the values of earlier nodes stay
pub get_or-values_after : (has : ℕ → Bool) (values : List Bool) (nodes : List Node) (i : ℕ) → i < length values →
    get_or (values_after has values nodes) i false ≡ get_or values i false
get_or-values_after has values [] i inside = refl
get_or-values_after has values (node ∷ nodes) i inside =
    let more = length_push values (node_value has values node) in
    get_or-values_after has (values ++ node_value has values node ∷ []) nodes i (omega arith)
    ∙ get_or_append_left values (node_value has values node ∷ []) false i inside

pub values_after-append : (has : ℕ → Bool) (values : List Bool) (nodes added : List Node) →
    values_after has values (nodes ++ added) ≡ values_after has (values_after has values nodes) added
values_after-append has values [] added = refl
values_after-append has values (node ∷ nodes) added = values_after-append has (values ++ node_value has values node ∷ []) nodes added

-- an old node keeps its value
pub value_kept : (old new : List Node) (has : ℕ → Bool) (i : ℕ) → Extends old new → i < length old → value new has i ≡ value old has i
value_kept old new has i extends inside =
    let size = length-values_after has [] old in
    rw (extends.nodes, values_after-append has [] old extends.added) (get_or-values_after has (values_after has [] old) extends.added i (omega arith))

-- a node's value follows from those of the nodes before it
value_between : (before after : List Node) (node : Node) (has : ℕ → Bool) →
    value (before ++ node ∷ after) has (length before) ≡ node_value has (values_after has [] before) node
value_between before after node has =
    let values : List Bool = values_after has [] before in
    let x : Bool = node_value has values node in
    let size : length values ≡ length before = length-values_after has [] before ∙ omega arith in
    let more = length_push values x in
    rw (values_after-append has [] before (node ∷ after)) (get_or-values_after has (values ++ x ∷ []) after (length before) (omega arith)
    ∙ get_or_push values x false (length before) size)

-- the nodes before a place, and those after it
record IsCutAt (nodes : List Node) (i : ℕ) (node : Node) : Type 0 where
  before : List Node
  after : List Node
  cut : nodes ≡ before ++ node ∷ after
  size : length before ≡ i

cut_at : (nodes : List Node) (i : ℕ) (node : Node) → slice_get nodes i ≡ Some node → IsCutAt nodes i node
cut_at nodes i node at =
    let (inside, read) = read_get nodes i node at in
    record {
      before = take i nodes;
      after = drop (suc i) nodes;
      cut = rw read at (split_at nodes i node inside);
      size = length-take-le i nodes (omega arith);
    }

value_at : (nodes : List Node) (has : ℕ → Bool) (i : ℕ) (node : Node) (cut : IsCutAt nodes i node) →
    value nodes has i ≡ node_value has (values_after has [] cut.before) node
value_at nodes has i node cut = ap (λ n. value nodes has n) (sym cut.size) ∙ ap (λ ns. value ns has (length cut.before)) cut.cut
    ∙ value_between cut.before cut.after node has

-- the values before the cut are those of the whole
value_before : (nodes : List Node) (has : ℕ → Bool) (i : ℕ) (node : Node) (cut : IsCutAt nodes i node) (k : ℕ) → k < i →
    get_or (values_after has [] cut.before) k false ≡ value nodes has k
value_before nodes has i node cut k inside =
    let size = cut.size in
    sym (value_kept cut.before nodes has k (record { added = node ∷ cut.after; nodes = cut.cut }) (omega arith))

pub value-Constant : (nodes : List Node) (has : ℕ → Bool) (i : ℕ) (b : Bool) → slice_get nodes i ≡ Some (Constant b) → value nodes has i ≡ b
value-Constant nodes has i b at = value_at nodes has i (Constant b) (cut_at nodes i (Constant b) at)

pub value-Choice : (nodes : List Node) (has : ℕ → Bool) (i variable high low : ℕ) → slice_get nodes i ≡ Some (Choice variable high low) → high < i → low < i →
    value nodes has i ≡ (if has variable then value nodes has high else value nodes has low)
value-Choice nodes has i variable high low at high_before low_before =
    let cut = cut_at nodes i (Choice variable high low) at in
    let e = value_at nodes has i (Choice variable high low) cut in
    let eh = value_before nodes has i (Choice variable high low) cut high high_before in
    let el = value_before nodes has i (Choice variable high low) cut low low_before in
    rw (eh, el) at e
