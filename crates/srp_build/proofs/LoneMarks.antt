-- The marks of routers, one edge after another.
use Rattle.std.proofs.Common.{◌≡◌, ◌≢◌, ℕ, zero, suc, ◌+◌, ◌<◌, true, false, List, [], ◌∷◌, ◌++◌, ◌⊎◌, inl, inr, length, take, get_or, slice_get, Option, Some, None, refl, sym, ◌∙◌, ap, subst, arith}
use Rattle.std.specs.Prelude.{All, IfSome}
use Rattle.std.proofs.lemmas.List.Elements.{All-contains}
use Rattle.std.proofs.Math.ListN.{set, replicate}
use Rattle.std.proofs.lemmas.Bool.{cases_eq}
use Rattle.std.proofs.lemmas.List.{get_or-set_same, get_or-set_other, length-set, get_or-replicate, length-replicate}
use Rattle.std.proofs.lemmas.Option.{slice_get_within, slice_get-get_or, get_or_from_slice_get}
use Rattle.base_kit.specs.declared.act_graph.Edge.{Edge}
use Rattle.base_kit.proofs.Elements.{In, contains_in, in_contains, in_left, in_right, append_in}
use Rattle.dd_core.specs.Sets.{Shown}
use Rattle.srp_build.specs.declared.acts.BgpAct.{BgpAct}
use Rattle.srp_build.specs.declared.lone.Mark.{Mark}
use Rattle.srp_build.specs.Lone.{Agree, TellsApart, IsNextMark, begins, again, stays, goes_on, HasEdgeWith, HasTwo, IsMark, AreLoneMarks}
use Rattle.srp_build.proofs.FirstUse.{take_more}

-- ---- lists with one item written

written_or_kept : {X : Type 0} (xs : List X) (i k : ℕ) (v x : X) → i < length xs → slice_get (set xs i v) k ≡ Some x →
    ((k ≡ i) × (v ≡ x)) ⊎ ((k ≢ i) × (slice_get xs k ≡ Some x))
written_or_kept {X} xs i k v x inside at =
    let read : get_or (set xs i v) k x ≡ x = get_or_from_slice_get (set xs i v) k x x at in
    elim (cases_eq k i) [
      | inl same ↦ inl (same, sym (get_or-set_same xs i v x inside) ∙ ap (λ (m : ℕ). get_or (set xs i v) m x) (sym same) ∙ read)
      | inr other ↦ (
          let within = slice_get_within (set xs i v) k x at in
          let total = length-set xs i v in
          inr (other, slice_get-get_or xs k x (omega arith) ∙ ap (λ (y : X). Some y) (sym (get_or-set_other xs i k v x other) ∙ read)))
    ]

-- ---- marks

pub no_marks : (shown : Shown) (acts : List BgpAct) (count : ℕ) (none : Mark) → none.first ≡ None → none.lone ≡ false → (edges : List Edge) → edges ≡ [] →
    AreLoneMarks shown acts count edges (replicate count none)
no_marks shown acts count none first lone edges empty = record {
  total = length-replicate count none;
  each = λ router mark at. (
      let within = slice_get_within (replicate count none) router mark at in
      let total = length-replicate count none in
      let same : none ≡ mark = sym (get_or-replicate count router none mark (omega arith)) ∙ get_or_from_slice_get (replicate count none) router mark mark at in
      subst (IsMark shown acts edges router) same (record {
        none = λ e act has. nothing act has;
        some = λ k e. absurd cc;
        lone = λ e. absurd cc;
        alone = λ e k act f has. absurd (nothing act has);
      }));
}
  where
    nothing : {router : ℕ} (act : ℕ) → HasEdgeWith edges router act → ⊥
    nothing {router} act has = let P : List Edge → Type 0 = λ l. In l has.edge in subst P empty (in_contains edges has.edge has.edge_in)

module _ (shown : Shown) (acts : List BgpAct) (edges : List Edge) (edge : Edge) where
  more_edge : (router act : ℕ) → HasEdgeWith edges router act → HasEdgeWith (edges ++ edge ∷ []) router act
  more_edge router act has = record {
    edge = has.edge;
    edge_in =
        contains_in _ has.edge (in_left edges (edge ∷ []) has.edge (in_contains edges has.edge has.edge_in));
    importer = has.importer;
    same = has.same;
  }

  new_edge : HasEdgeWith (edges ++ edge ∷ []) edge.importer edge.act
  new_edge = record { edge = edge; edge_in = contains_in _ edge (in_right edges (edge ∷ []) edge (inl refl)); importer = refl; same = refl }

  old_or_new : (router act : ℕ) → HasEdgeWith (edges ++ edge ∷ []) router act → HasEdgeWith edges router act ⊎ ((router ≡ edge.importer) × (act ≡ edge.act))
  old_or_new router act has = elim (append_in edges (edge ∷ []) has.edge (in_contains _ has.edge has.edge_in)) [
    | inl before ↦ inl (record { edge = has.edge; edge_in = contains_in edges has.edge before; importer = has.importer; same = has.same })
    | inr last ↦ elim last [
      | inl same ↦ inr (sym (ap (λ (e : Edge). e.importer) same ∙ has.importer), sym (ap (λ (e : Edge). e.act) same ∙ has.same))
      | inr none ↦ absurd none
    ]
  ]

  more_two : (router : ℕ) → HasTwo shown acts edges router → HasTwo shown acts (edges ++ edge ∷ []) router
  more_two router two = record {
    first = two.first;
    second = two.second;
    first_there = more_edge router two.first two.first_there;
    second_there = more_edge router two.second two.second_there;
    differ = two.differ;
  }

  -- the mark of another router stays
  mark_aside : (router : ℕ) (mark : Mark) → router ≢ edge.importer → IsMark shown acts edges router mark → IsMark shown acts (edges ++ edge ∷ []) router mark
  mark_aside router mark other is = record {
    none = λ e act has. elim (old_or_new router act has) [ inl before ↦ is.none e act before | inr last ↦ other last.0 ];
    some = λ k e. more_edge router k (is.some k e);
    lone = λ e. more_two router (is.lone e);
    alone = λ e k act f has. elim (old_or_new router act has) [ inl before ↦ is.alone e k act f before | inr last ↦ absurd (other last.0) ];
  }

  one_first : (o : Option ℕ) (a b : ℕ) → o ≡ Some a → o ≡ Some b → a ≡ b
  one_first None a b e f = absurd cc
  one_first (Some k) a b e f = (let x : k ≡ a = cc in let y : k ≡ b = cc in sym x ∙ y)

  -- the mark after a first act
  mark_begins : (mark next : Mark) → IsMark shown acts edges edge.importer mark → mark.first ≡ None → TellsApart shown acts edge.act edge.act next →
      IsMark shown acts (edges ++ edge ∷ []) edge.importer next
  mark_begins mark next is none tells = record {
    none = λ e act has. (let first = tells.first in cc);
    some = λ k e. subst (λ (m : ℕ). HasEdgeWith (edges ++ edge ∷ []) edge.importer m) (one_first next.first edge.act k tells.first e) new_edge;
    lone = λ e. record { first = edge.act; second = edge.act; first_there = new_edge; second_there = new_edge; differ = tells.lone e };
    alone = λ e k act f has. elim (old_or_new edge.importer act has) [
      | inl before ↦ absurd (is.none none act before)
      | inr last ↦ subst (λ (m : ℕ). Agree shown acts m act) (one_first next.first edge.act k tells.first f)
          (subst (λ (m : ℕ). Agree shown acts edge.act m) (sym last.1) (tells.alone e))
    ];
  }

  -- the first act once more
  mark_again : (mark : Mark) → IsMark shown acts edges edge.importer mark → mark.first ≡ Some edge.act →
      IsMark shown acts (edges ++ edge ∷ []) edge.importer mark
  mark_again mark is some_first = record {
    none = λ e act has. absurd cc;
    some = λ k e. more_edge edge.importer k (is.some k e);
    lone = λ e. more_two edge.importer (is.lone e);
    alone = λ e k act f has. elim (old_or_new edge.importer act has) [
      | inl before ↦ is.alone e k act f before
      | inr last ↦ is.alone e k act f (subst (λ (m : ℕ). HasEdgeWith edges edge.importer m) (sym last.1) (is.some edge.act some_first))
    ];
  }

  mark_stays : (mark : Mark) (first : ℕ) → IsMark shown acts edges edge.importer mark → mark.first ≡ Some first → mark.lone ≡ true →
      IsMark shown acts (edges ++ edge ∷ []) edge.importer mark
  mark_stays mark first is some_first lone = record {
    none = λ e act has. absurd cc;
    some = λ k e. more_edge edge.importer k (is.some k e);
    lone = λ e. more_two edge.importer (is.lone e);
    alone = λ e k act f has. absurd cc;
  }

  mark_goes_on : (mark next : Mark) (first : ℕ) → IsMark shown acts edges edge.importer mark → mark.first ≡ Some first → mark.lone ≡ false →
      TellsApart shown acts first edge.act next → IsMark shown acts (edges ++ edge ∷ []) edge.importer next
  mark_goes_on mark next first is some_first alone tells = record {
    none = λ e act has. (let there = tells.first in cc);
    some = λ k e. more_edge edge.importer k (subst (λ (m : ℕ). HasEdgeWith edges edge.importer m) (one_first next.first first k tells.first e)
        (is.some first some_first));
    lone = λ e. record {
      first = first;
      second = edge.act;
      first_there = more_edge edge.importer first (is.some first some_first);
      second_there = new_edge;
      differ = tells.lone e;
    };
    alone = λ e k act f has. elim (old_or_new edge.importer act has) [
      | inl before ↦ subst (λ (m : ℕ). Agree shown acts m act) (one_first next.first first k tells.first f) (is.alone alone first act some_first before)
      | inr last ↦ subst (λ (m : ℕ). Agree shown acts m act) (one_first next.first first k tells.first f)
          (subst (λ (m : ℕ). Agree shown acts first m) (sym last.1) (tells.alone e))
    ];
  }

  mark_next : (mark next : Mark) → IsMark shown acts edges edge.importer mark → IsNextMark shown acts mark edge.act next →
      IsMark shown acts (edges ++ edge ∷ []) edge.importer next
  mark_next mark next is (begins none tells) = mark_begins mark next is none tells
  mark_next mark next is (again some_first same) =
      subst (IsMark shown acts (edges ++ edge ∷ []) edge.importer) (sym same) (mark_again mark is some_first)
  mark_next mark next is (stays first some_first lone same) =
      subst (IsMark shown acts (edges ++ edge ∷ []) edge.importer) (sym same) (mark_stays mark first is some_first lone)
  mark_next mark next is (goes_on first some_first alone tells) = mark_goes_on mark next first is some_first alone tells

  marks_last : (count : ℕ) (marks : List Mark) (mark next : Mark) → edge.importer < length marks → AreLoneMarks shown acts count edges marks →
      slice_get marks edge.importer ≡ Some mark → IsNextMark shown acts mark edge.act next →
      AreLoneMarks shown acts count (edges ++ edge ∷ []) (set marks edge.importer next)
  marks_last count marks mark next inside are at is_next = record {
    total = length-set marks edge.importer next ∙ are.total;
    each = λ router m here. elim (written_or_kept marks edge.importer router next m inside here) [
      | inl written ↦ subst (λ (k : ℕ). IsMark shown acts (edges ++ edge ∷ []) k m) (sym written.0)
          (subst (IsMark shown acts (edges ++ edge ∷ []) edge.importer) written.1 (mark_next mark next (are.each edge.importer mark at) is_next))
      | inr kept ↦ mark_aside router m kept.0 (are.each router m kept.1)
    ];
  }

-- one more edge of a list
pub marks_next : (shown : Shown) (acts : List BgpAct) (count : ℕ) (edges : List Edge) (i : ℕ) (edge d : Edge) (marks : List Mark) (mark next : Mark) →
    i < length edges → get_or edges i d ≡ edge → edge.importer < length marks
    → AreLoneMarks shown acts count (take i edges) marks → slice_get marks edge.importer ≡ Some mark → IsNextMark shown acts mark edge.act next →
    AreLoneMarks shown acts count (take (i + 1) edges) (set marks edge.importer next)
marks_next shown acts count edges i edge d marks mark next inside at importer are mark_at is_next =
    subst (λ (l : List Edge). AreLoneMarks shown acts count l (set marks edge.importer next)) (sym (take_more edges i edge d inside at))
    (marks_last shown acts (take i edges) edge count marks mark next importer are mark_at is_next)

-- ---- the edge at a place of a list

some_inside : (o : Option ℕ) (bound : ℕ) → ((k : ℕ) → o ≡ Some k → k < bound) → IfSome o (λ k. k < bound)
some_inside None bound inside = tt
some_inside (Some k) bound inside = inside k refl

take_in : {X : Type 0} (xs : List X) (i : ℕ) (x : X) → In (take i xs) x → In xs x
take_in [] zero x at = at
take_in [] (suc i) x at = at
take_in (y ∷ ys) zero x at = absurd at
take_in (y ∷ ys) (suc i) x (inl same) = inl same
take_in (y ∷ ys) (suc i) x (inr at) = inr (take_in ys i x at)

mark_there : (marks : List Mark) (count k : ℕ) (d mark : Mark) → length marks ≡ count → k < count → mark ≡ get_or marks k d → slice_get marks k ≡ Some mark
mark_there marks count k d mark total inside is = slice_get-get_or marks k d (omega arith) ∙ ap (λ (m : Mark). Some m) (sym is)

-- the first act of a mark is an act
pub first_at : (shown : Shown) (acts : List BgpAct) (count : ℕ) (edges : List Edge) (i : ℕ) (d : Edge) (marks : List Mark) (m mark : Mark) → i < length edges →
    All (λ (e : Edge). e.importer < count) edges → All (λ (e : Edge). e.act < length acts) edges
    → AreLoneMarks shown acts count (take i edges) marks → mark ≡ get_or marks (get_or edges i d).importer m → IfSome mark.first (λ k. k < length acts)
first_at shown acts count edges i d marks m mark inside importers inside_acts are is =
    let there = mark_there marks count (get_or edges i d).importer m mark are.total (importers i d inside) is in
    some_inside mark.first (length acts) (λ k first.
    let has = (are.each (get_or edges i d).importer mark there).some k first in
    subst (λ (a : ℕ). a < length acts) has.same
    (All-contains (λ (e : Edge). e.act < length acts) edges has.edge inside_acts
    (contains_in edges has.edge (take_in edges i has.edge (in_contains (take i edges) has.edge has.edge_in)))))

pub marks_at : (shown : Shown) (acts : List BgpAct) (count : ℕ) (edges : List Edge) (i : ℕ) (d : Edge) (marks : List Mark) (m mark next : Mark) →
    i < length edges → All (λ (e : Edge). e.importer < count) edges
    → AreLoneMarks shown acts count (take i edges) marks → mark ≡ get_or marks (get_or edges i d).importer m →
    IsNextMark shown acts mark (get_or edges i d).act next → AreLoneMarks shown acts count (take (i + 1) edges) (set marks (get_or edges i d).importer next)
marks_at shown acts count edges i d marks m mark next inside importers are is is_next =
    let total = are.total in
    let importer = importers i d inside in
    marks_next shown acts count edges i (get_or edges i d) d marks mark next inside refl (omega arith) are
    (mark_there marks count (get_or edges i d).importer m mark total importer is) is_next
