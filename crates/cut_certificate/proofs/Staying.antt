-- The lists of blocks, and the edges of exporters.
use Rattle.std.proofs.Common.{◌≡◌, ◌≢◌, ℕ, zero, suc, ◌+◌, ◌-◌, ◌<◌, ◌≤◌, true, List, [], ◌∷◌, ◌++◌, length, get_or, slice_index_or, slice_set, take, All, Contains, Vec, sym, ◌∙◌, ap, subst, arith, inl, inr}
use Rattle.std.specs.Prelude.{slice_index}
use Rattle.std.specs.List.{swap_remove}
use Rattle.std.specs.List.Sorted.{IsPermutation}
use Rattle.std.specs.declared.alloc.Global.{Global}
use Rattle.std.proofs.lemmas.Bool.{cases_eq}
use Rattle.std.proofs.lemmas.List.{get_or-set_same, get_or-set_other, get_or_default, get_or-take, length-take, take_more}
use Rattle.std.proofs.lemmas.List.Elements.{All-push, All-weaker, Contains-append_left, Contains-push, Contains-push_cases}
use Rattle.std.proofs.lemmas.List.Sorted.{IsPermutation-swap_remove, All-permutation, Contains-permutation}
use Rattle.std.proofs.Math.ListN.{length-set}
use Rattle.base_kit.specs.declared.act_graph.Edge.{Edge}
use Rattle.cut_certificate.specs.declared.outgoing.Placed.{Placed}
use Rattle.cut_certificate.specs.Moves.{is_mover, AllMove, AreMembersListed, AreStillMembersListed, HasIncoming, AreAdded, HasImporters}

-- ---- a member that stays

-- what holds while the first routers of a list were looked at: they are members that move
pub record Looking (edges : List Edge) (numbers old list : List ℕ) (block by act place : ℕ) : Type 0 where
  pub within : place ≤ length list
  pub routers : All (λ u. u < length numbers) list
  pub members : (u : ℕ) → Contains old u → slice_index numbers u ≡ block → Contains list u
  pub looked : (i : ℕ) → i < place → is_mover edges numbers block by act (slice_index list i) ≡ true

pub looking_start : (edges : List Edge) (numbers old : List ℕ) (block by act : ℕ) → All (λ u. u < length numbers) old
    → Looking edges numbers old old block by act 0
looking_start edges numbers old block by act routers = record {
  within = omega arith;
  routers = routers;
  members = λ u found is. found;
  looked = λ i less. absurd (omega arith);
}

not_first : (gone u : ℕ) (list : List ℕ) → gone ≢ u → Contains (gone ∷ list) u → Contains list u
not_first gone u list ne (zero, inside, at) = absurd (ne at)
not_first gone u list ne (suc k, inside, at) = (k, omega arith, at)

-- a router that has left the block is dropped
pub looking_dropped : (edges : List Edge) (numbers old list list' : List ℕ) (block by act place gone : ℕ) → Looking edges numbers old list block by act place
    → place < length list → gone ≡ slice_index_or list place gone → list' ≡ swap_remove list place gone → slice_index numbers gone ≢ block
    → Looking edges numbers old list' block by act place
looking_dropped edges numbers old list list' block by act place gone looking inside read items left =
    let last : ℕ = slice_index_or list (length list - 1) gone in
    let size : length list' + 1 ≡ length list = let taken = ap length items ∙ length-take (length list - 1) (slice_set list place last) in let set =
    length-set list place last in omega arith in
    let same : (k : ℕ) → k ≢ place → k + 1 < length list → slice_index list' k ≡ slice_index list k = λ k ne less.
    ap (λ (xs : List ℕ). slice_index xs k) items ∙ get_or-take (length list - 1) (slice_set list place last) k 0 (omega arith)
    ∙ get_or-set_other list place k last 0 ne in
    let moved : IsPermutation list (gone ∷ list') = subst (λ (xs : List ℕ). IsPermutation list (gone ∷ xs)) (sym items)
    (IsPermutation-swap_remove list place gone inside read) in
    let all : All (λ u. u < length numbers) (gone ∷ list') = All-permutation (λ u. u < length numbers) list (gone ∷ list') moved looking.routers in
    record {
      within = omega arith;
      routers = λ k d within. all (suc k) d (omega arith);
      members = λ u found is. not_first gone u list' (λ e. left (ap (slice_index numbers) e ∙ is))
          (Contains-permutation list (gone ∷ list') u moved (looking.members u found is));
      looked = λ i less. ap (is_mover edges numbers block by act) (same i (λ e. omega arith) (omega arith)) ∙ looking.looked i less;
    }

-- a member that moves stays in the list
pub looking_more : (edges : List Edge) (numbers old list : List ℕ) (block by act place router : ℕ) → Looking edges numbers old list block by act place
    → place < length list → slice_index list place ≡ router → is_mover edges numbers block by act router ≡ true
    → Looking edges numbers old list block by act (place + 1)
looking_more edges numbers old list block by act place router looking inside at moves = record {
  within = omega arith;
  routers = looking.routers;
  members = looking.members;
  looked = λ i less. elim (cases_eq i place) [
    | inl e ↦ ap (is_mover edges numbers block by act) (ap (slice_index list) e ∙ at) ∙ moves
    | inr ne ↦ looking.looked i (omega arith)
  ];
}

pub still_listed : (edges : List Edge) (numbers old list : List ℕ) (block by act place : ℕ) → Looking edges numbers old list block by act place
    → AreStillMembersListed numbers block old list
still_listed edges numbers old list block by act place looking = record { routers = looking.routers; members = looking.members }

pub looking_end : (edges : List Edge) (numbers old list : List ℕ) (block by act place : ℕ) → Looking edges numbers old list block by act place
    → length list ≤ place → AllMove edges numbers block by act old
looking_end edges numbers old list block by act place looking all = record {
  each = λ u found in_block.
      let (k, inside, at) = looking.members u found in_block in
      ap (is_mover edges numbers block by act) (sym (get_or_default list k 0 u inside ∙ at)) ∙ looking.looked k (omega arith);
}

-- ---- the first lists

pub record AreListedSoFar (count : ℕ) (numbers : List ℕ) (lists : List (Vec ℕ Global)) : Type 0 where
  pub routers : (block : ℕ) (d : Vec ℕ Global) → block < length lists → All (λ u. u < count) (slice_index_or lists block d).items
  pub members : (u : ℕ) (d : Vec ℕ Global) → u < count → u < length numbers → Contains (slice_index_or lists (slice_index numbers u) d).items u

pub listed_none : (numbers : List ℕ) (lists : List (Vec ℕ Global)) → All (λ l. l.items ≡ []) lists → AreListedSoFar 0 numbers lists
listed_none numbers lists empty = record {
  routers = λ block d inside. rw (empty block d inside) (λ k e within. absurd (omega arith));
  members = λ u d less hu. absurd (omega arith);
}

pub listed_more : (numbers : List ℕ) (lists : List (Vec ℕ Global)) (router number : ℕ) (old new : Vec ℕ Global) → AreListedSoFar router numbers lists
    → slice_index numbers router ≡ number → number < length lists → old ≡ slice_index_or lists number old → new.items ≡ old.items ++ router ∷ []
    → AreListedSoFar (router + 1) numbers (slice_set lists number new)
listed_more numbers lists router number old new before is known read pushed =
    let size = length-set lists number new in
    let here : (b : ℕ) (d : Vec ℕ Global) → b ≡ number → slice_index_or (slice_set lists number new) b d ≡ new = λ b d e.
    ap (λ i. slice_index_or (slice_set lists number new) i d) e ∙ get_or-set_same lists number new d known in
    record {
      routers = λ b d inside. elim (cases_eq b number) [
        | inl e ↦
            let was : All (λ u. u < router) old.items = subst (λ (v : Vec ℕ Global). All (λ u. u < router) v.items) (sym read) (before.routers number old known)
            in
            rw (here b d e, pushed) (All-push (λ u. u < router + 1) old.items router
            (All-weaker (λ u. u < router) (λ u. u < router + 1) (λ u lt. omega arith) old.items was) (omega arith))
        | inr ne ↦ rw (get_or-set_other lists number b new d ne)
            (All-weaker (λ u. u < router) (λ u. u < router + 1) (λ u lt. omega arith) _ (before.routers b d (omega arith)))
      ];
      members = λ u d less hu. elim (cases_eq u router) [
        | inl e ↦ rw (here (slice_index numbers u) d (ap (slice_index numbers) e ∙ is), pushed)
            (subst (Contains (old.items ++ router ∷ [])) (sym e) (Contains-push old.items router))
        | inr other ↦ elim (cases_eq (slice_index numbers u) number) [
          | inl e ↦
              let was : Contains old.items u = subst (λ (v : Vec ℕ Global). Contains v.items u) (ap (λ i. slice_index_or lists i old) e ∙ sym read)
              (before.members u old (omega arith) hu) in
              rw (here (slice_index numbers u) d e, pushed) (Contains-append_left old.items (router ∷ []) u was)
          | inr ne ↦ rw (get_or-set_other lists number (slice_index numbers u) new d ne) (before.members u d (omega arith) hu)
        ]
      ];
    }

pub listed_all : (numbers : List ℕ) (lists : List (Vec ℕ Global)) (count : ℕ) → AreListedSoFar (length numbers) numbers lists
    → All (λ number. (0 < number) × (number ≤ count)) numbers → length lists ≡ count + 1 → AreMembersListed numbers lists
listed_all numbers lists count are known size = record {
  below = λ k d inside. (let (some, few) = known k d inside in omega arith);
  routers = are.routers;
  members = λ u d hu. are.members u d hu hu;
}

-- ---- the edges of exporters

pub incoming_start : (edges : List Edge) (lists : List (Vec Placed Global)) → HasIncoming (take 0 edges) lists
incoming_start edges lists = record { each = λ e d (k, inside, at) known. absurd (omega arith) }

pub incoming_more : (edges : List Edge) (lists : List (Vec Placed Global)) (k : ℕ) (e d' : Edge) (p : Placed) (old new : Vec Placed Global)
    → HasIncoming (take k edges) lists → k < length edges → e ≡ get_or edges k d' → e.exporter < length lists
    → old ≡ slice_index_or lists e.exporter old → p.edge ≡ e → new.items ≡ old.items ++ p ∷ []
    → HasIncoming (take (k + 1) edges) (slice_set lists e.exporter new)
incoming_more edges lists k e d' p old new before more is inside read own pushed = record {
  each = λ x d found known.
      let size = length-set lists e.exporter new in
      let last = subst (λ (es : List Edge). Contains es x) (take_more edges k d' more) found in
      let same_list : x.exporter ≡ e.exporter → slice_index_or (slice_set lists e.exporter new) x.exporter d ≡ new = λ same.
      ap (λ b. slice_index_or (slice_set lists e.exporter new) b d) same ∙ get_or-set_same lists e.exporter new d inside in
      let in_new : (q : Placed) → slice_index_or (slice_set lists e.exporter new) x.exporter d ≡ new → Contains (old.items ++ p ∷ []) q
      → Contains (slice_index_or (slice_set lists e.exporter new) x.exporter d).items q = λ q same within.
      subst (λ (v : Vec Placed Global). Contains v.items q) (sym same) (subst (λ (ps : List Placed). Contains ps q) (sym pushed) within) in
      elim (Contains-push_cases (take k edges) (get_or edges k d') x last) [
        | inl there ↦ elim (cases_eq x.exporter e.exporter) [
          | inl same ↦
              let (q, within, is') = before.each x old there (omega arith) in
              let was : Contains old.items q = subst (λ (v : Vec Placed Global). Contains v.items q) (ap (λ i. slice_index_or lists i old) same ∙ sym read)
              within in
              (q, in_new q (same_list same) (Contains-append_left old.items (p ∷ []) q was), is')
          | inr ne ↦
              let (q, within, is') = before.each x d there (omega arith) in
              (q, subst (λ (v : Vec Placed Global). Contains v.items q) (sym (get_or-set_other lists e.exporter x.exporter new d ne)) within, is')
        ]
        | inr here ↦
            let e_is : e ≡ x = is ∙ here in
            (p, in_new p (same_list (ap (λ (y : Edge). y.exporter) (sym e_is))) (Contains-push old.items p), own ∙ e_is)
      ];
}

-- ---- importers

pub added_none : (old : List ℕ) (edges : List Placed) (act : ℕ) → AreAdded old old (take 0 edges) act
added_none old edges act = record { kept = λ u found. found; added = λ p (k, inside, at) acts. absurd (omega arith) }

pub added_more : (old new new' : List ℕ) (edges : List Placed) (p : Placed) (act : ℕ) → AreAdded old new edges act → new' ≡ new ++ p.edge.importer ∷ []
    → AreAdded old new' (edges ++ p ∷ []) act
added_more old new new' edges p act are pushed = record {
  kept = λ u found. rw pushed (Contains-append_left new (p.edge.importer ∷ []) u (are.kept u found));
  added = λ q found acts. elim (Contains-push_cases edges p q found) [
    | inl there ↦ rw pushed (Contains-append_left new (p.edge.importer ∷ []) q.edge.importer (are.added q there acts))
    | inr e ↦ rw pushed (subst (λ (x : Placed). Contains (new ++ p.edge.importer ∷ []) x.edge.importer) e (Contains-push new p.edge.importer))
  ];
}

pub added_skip : (old new : List ℕ) (edges : List Placed) (p : Placed) (act : ℕ) → AreAdded old new edges act → p.edge.act ≢ act
    → AreAdded old new (edges ++ p ∷ []) act
added_skip old new edges p act are ne = record {
  kept = are.kept;
  added = λ q found acts. elim (Contains-push_cases edges p q found) [
    | inl there ↦ are.added q there acts
    | inr e ↦ absurd (ne (ap (λ (x : Placed). x.edge.act) e ∙ acts))
  ];
}

pub importers_none : (lists : List (Vec Placed Global)) (list : List ℕ) (act : ℕ) (found : List ℕ) → HasImporters lists (take 0 list) act found
importers_none lists list act found = record { each = λ x d p (k, inside, at) within acts. absurd (omega arith) }

pub importers_more : (lists : List (Vec Placed Global)) (list : List ℕ) (exporter act : ℕ) (old new : List ℕ) (edges : Vec Placed Global)
    → HasImporters lists list act old → exporter < length lists → edges ≡ slice_index_or lists exporter edges → AreAdded old new edges.items act
    → HasImporters lists (list ++ exporter ∷ []) act new
importers_more lists list exporter act old new edges are known read more = record {
  each = λ x d p listed within acts. elim (Contains-push_cases list exporter x listed) [
    | inl there ↦ more.kept p.edge.importer (are.each x d p there within acts)
    | inr e ↦ more.added p (subst (λ (v : Vec Placed Global). Contains v.items p)
        (ap (λ i. slice_index_or lists i d) (sym e) ∙ get_or_default lists exporter d edges known ∙ sym read) within) acts
  ];
}
