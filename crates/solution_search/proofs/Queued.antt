-- The queue of routers that come next.
use Rattle.std.proofs.Common.{◌≡◌, ℕ, zero, suc, ◌+◌, ◌<◌, ◌≤◌, Bool, true, false, cond, List, [], ◌∷◌, length, set, Option, Some, None, refl, sym, ap, ◌∙◌, subst, inl, inr, arith}
use Rattle.std.specs.Prelude.{slice_index_or}
use Rattle.std.specs.declared.cmp.Reverse.{Reverse}
use Rattle.std.specs.List.Sorted.{IsPermutation}
use Rattle.std.proofs.lemmas.Bool.{cases_lt, cases_eq}
use Rattle.std.proofs.lemmas.List.{get_or_past, get_or-set_same, get_or-set_other}
use Rattle.std.proofs.lemmas.List.Sorted.{Contains-permutation}
use Rattle.base_kit.proofs.Elements.{contains_in, in_contains}
use Rattle.srp_core.specs.declared.route.Route.{Route}
use Rattle.srp_core.specs.Routes.{preference_of, size_of}
use Rattle.srp_core.specs.Stability.{label}
use Rattle.solution_search.specs.declared.bests.Best.{Best}
use Rattle.solution_search.specs.declared.board.Board.{Board}
use Rattle.solution_search.specs.Boards.{State, state_of, best_at}
use Rattle.solution_search.specs.Looks.{is_above, open_size, open_size_by, IsClosed, IsTurn, IsLeast}
use Rattle.solution_search.specs.Queues.{Turns, IsListed, KeepsListed, IsFirstTurn, DropsListed, IsQueued, KeepsQueued}

pub pushed : (old new : Turns) (turn : Reverse (ℕ × ℕ)) → IsPermutation (turn ∷ old) new → IsListed new turn.0.0 turn.0.1
pushed old new turn p = record {
  turn = turn;
  listed = Contains-permutation (turn ∷ old) new turn p (contains_in (turn ∷ old) turn (inl refl));
  size_is = refl;
  router_is = refl;
}

pub pushed_keeps : (old new : Turns) (turn : Reverse (ℕ × ℕ)) → IsPermutation (turn ∷ old) new → KeepsListed old new
pushed_keeps old new turn p = record {
  kept = λ size router l. record {
    turn = l.turn;
    listed = Contains-permutation (turn ∷ old) new l.turn p (contains_in (turn ∷ old) l.turn (inr (in_contains old l.turn l.listed)));
    size_is = l.size_is;
    router_is = l.router_is;
  };
}

pub dropped : (old new : Turns) (top : Reverse (ℕ × ℕ)) (size router : ℕ) → IsFirstTurn old size router → top ≡ slice_index_or old 0 top →
    IsPermutation old (top ∷ new) → DropsListed old new size router
dropped old new top size router f e p = record {
  rest = λ other u l.
      elim (in_contains (top ∷ new) l.turn (Contains-permutation old (top ∷ new) l.turn p l.listed)) [
        | inr rest ↦ inr (record { turn = l.turn; listed = contains_in new l.turn rest; size_is = l.size_is; router_is = l.router_is })
        | inl same ↦
            let at = f.some top in
            let one : top.0.0 ≡ size = ap (λ (t : Reverse (ℕ × ℕ)). t.0.0) e ∙ at.0 in
            let two : top.0.1 ≡ router = ap (λ (t : Reverse (ℕ × ℕ)). t.0.1) e ∙ at.1 in
            inl (sym l.size_is ∙ ap (λ (t : Reverse (ℕ × ℕ)). t.0.0) (sym same) ∙ one, sym l.router_is ∙ ap (λ (t : Reverse (ℕ × ℕ)). t.0.1) (sym same) ∙ two)
      ];
}

pub nothing_listed : (turns : Turns) (size router : ℕ) → turns ≡ [] → ¬ IsListed turns size router
nothing_listed [] size router e l = in_contains [] l.turn l.listed
nothing_listed (turn ∷ turns) size router e l = absurd (cc)

-- ---- the queue of a state

by_parts : (s t : State) (u : ℕ) → label t.labels u ≡ label s.labels u → t.waits ≡ s.waits → best_at t.bests u ≡ best_at s.bests u →
    open_size t u ≡ open_size s u
unfolding open_size
by_parts s t u l w b = ap (λ (o : Option Route). open_size_by o (slice_index_or t.waits u None) (best_at t.bests u)) l
    ∙ ap (λ (o : List (Option ℕ)). open_size_by (label s.labels u) (slice_index_or o u None) (best_at t.bests u)) w
    ∙ ap (λ (o : Option Best). open_size_by (label s.labels u) (slice_index_or s.waits u None) o) b

no_best : (l : Option Route) (awaited : Option ℕ) → open_size_by l awaited None ≡ None
no_best None awaited = refl
no_best (Some r) awaited = refl

-- an open router is one of those that have a place for an offer
pub open_inside : (s : State) (u size : ℕ) → open_size s u ≡ Some size → u < length s.bests
unfolding open_size
open_inside s u size e = elim (cases_lt u (length s.bests)) [
  | inl h ↦ h
  | inr h ↦
      let none : best_at s.bests u ≡ None = get_or_past s.bests u None h in
      let closed = ap (λ (o : Option Best). open_size_by (label s.labels u) (slice_index_or s.waits u None) o) none
      ∙ no_best (label s.labels u) (slice_index_or s.waits u None) in
      absurd (cc)
]

-- a settled router is not open
pub closed_settled : (s : State) (u : ℕ) (r : Route) → label s.labels u ≡ Some r → open_size s u ≡ None
unfolding open_size
closed_settled s u r e = ap (λ (o : Option Route). open_size_by o (slice_index_or s.waits u None) (best_at s.bests u)) e

-- a router without an offer is not open
closed_without : (s : State) (u : ℕ) → best_at s.bests u ≡ None → open_size s u ≡ None
unfolding open_size
closed_without s u none = ap (λ (o : Option Best). open_size_by (label s.labels u) (slice_index_or s.waits u None) o) none
    ∙ no_best (label s.labels u) (slice_index_or s.waits u None)

-- the size of an open router is that of its best offer
pub open_sized : (s : State) (u size : ℕ) (best : Best) → best_at s.bests u ≡ Some best → open_size s u ≡ Some size → size_of best.route ≡ size
unfolding open_size
open_sized s u size best b e = by (label s.labels u) (is_above (slice_index_or s.waits u None) (preference_of best.route)) refl
    (ap (λ (o : Option Best). open_size_by (label s.labels u) (slice_index_or s.waits u None) o) (sym b) ∙ e)
  where
    by : (l : Option Route) (above : Bool) → is_above (slice_index_or s.waits u None) (preference_of best.route) ≡ above →
        open_size_by l (slice_index_or s.waits u None) (Some best) ≡ Some size → size_of best.route ≡ size
    by (Some r) above a f = absurd (cc)
    by None true a f =
        let is : open_size_by None (slice_index_or s.waits u None) (Some best) ≡ Some (size_of best.route) =
        ap (λ (x : Bool). cond x (Some (size_of best.route)) None) a in
        cc
    by None false a f =
        let is : open_size_by None (slice_index_or s.waits u None) (Some best) ≡ None = ap (λ (x : Bool). cond x (Some (size_of best.route)) None) a in
        absurd (cc)

-- another best offer is put in the place of the router's own, and the router into the queue
pub put_queued : (s : State) (bests : List (Option Best)) (router : ℕ) (best : Best) (turns others : Turns) → router < length s.bests →
    bests ≡ set s.bests router (Some best) → KeepsListed turns others → IsListed others (size_of best.route) router → IsQueued s turns →
    IsQueued (record { labels = s.labels; waits = s.waits; bests = bests }) others
put_queued s bests router best turns others inside put kept listed q = record {
  all = λ u size e.
      elim (cases_eq u router) [
        | inl here ↦
            let at : best_at bests u ≡ Some best =
            ap (λ (n : ℕ). best_at bests n) here ∙ ap (λ (l : List (Option Best)). best_at l router) put
            ∙ get_or-set_same s.bests router (Some best) None inside in
            subst (λ (n : ℕ). IsListed others n u) (open_sized t u size best at e) (subst (λ (n : ℕ). IsListed others (size_of best.route) n) (sym here) listed)
        | inr differ ↦
            let other : best_at bests u ≡ best_at s.bests u =
            ap (λ (l : List (Option Best)). best_at l u) put ∙ get_or-set_other s.bests router u (Some best) None differ in
            kept.kept size u (q.all u size (sym (by_parts s t u refl refl other) ∙ e))
      ];
}
  where
    t : State
    t = record { labels = s.labels; waits = s.waits; bests = bests }

pub taken_queued : (old new : Board) (router : ℕ) (route : Route) (turns : Turns) → router < length old.labels →
    new.labels ≡ set old.labels router (Some route) →
    new.waits.items ≡ old.waits.items → new.bests.items ≡ set old.bests.items router None → KeepsQueued old turns new turns
taken_queued old new router route turns inside labels waits bests = λ q. record {
  all = λ u size e.
      elim (cases_eq u router) [
        | inl here ↦
            let at : label new.labels u ≡ Some route =
            ap (λ (n : ℕ). label new.labels n) here ∙ ap (λ (l : List (Option Route)). label l router) labels
            ∙ get_or-set_same old.labels router (Some route) None inside in
            let closed = closed_settled (state_of new) u route at in
            absurd (cc)
        | inr differ ↦
            let other : label new.labels u ≡ label old.labels u =
            ap (λ (l : List (Option Route)). label l u) labels ∙ get_or-set_other old.labels router u (Some route) None differ in
            let before = by_parts (state_of old) (state_of new) u other waits
            (ap (λ (l : List (Option Best)). best_at l u) bests ∙ get_or-set_other old.bests.items router u None None differ) in
            q.all u size (sym before ∙ e)
      ];
}

set_none : (bests : List (Option Best)) (i : ℕ) → best_at (set bests i None) i ≡ None
set_none [] i = refl
set_none (best ∷ bests) zero = refl
set_none (best ∷ bests) (suc i) = set_none bests i

-- a router without an offer is not open
pub emptied_queued : (s t : State) (router : ℕ) (turns : Turns) → t.labels ≡ s.labels → t.waits ≡ s.waits → t.bests ≡ set s.bests router None →
    IsQueued s turns → IsQueued t turns
emptied_queued s t router turns labels waits bests q = record {
  all = λ u size e.
      elim (cases_eq u router) [
        | inl here ↦
            let at : best_at t.bests u ≡ None =
            ap (λ (n : ℕ). best_at t.bests n) here ∙ ap (λ (l : List (Option Best)). best_at l router) bests ∙ set_none s.bests router in
            let closed = closed_without t u at in
            absurd (cc)
        | inr differ ↦
            let before = by_parts s t u (ap (λ (l : List (Option Route)). label l u) labels) waits
            (ap (λ (l : List (Option Best)). best_at l u) bests ∙ get_or-set_other s.bests router u None None differ) in
            q.all u size (sym before ∙ e)
      ];
}

-- what is no turn is dropped
pub drops_queued : (s : State) (routers size router : ℕ) (old new : Turns) → length s.bests ≡ routers → DropsListed old new size router →
    ¬ IsTurn s routers size router → IsQueued s old → IsQueued s new
drops_queued s routers size router old new total d stale q = record {
  all = λ u other e.
      elim (d.rest other u (q.all u other e)) [
        | inr rest ↦ rest
        | inl same ↦
            let sized : open_size s router ≡ Some size = ap (open_size s) (sym same.1) ∙ e ∙ ap Some same.0 in
            let inside = open_inside s router size sized in
            absurd (stale (record { inside = omega (arith, inside, total); sized = sized }))
      ];
}

pub queue_at_end : (s : State) (routers : ℕ) (turns : Turns) → turns ≡ [] → IsQueued s turns → IsClosed s routers
queue_at_end s routers turns e q = record { closed = λ u h. by u (open_size s u) refl }
  where
    by : (u : ℕ) (o : Option ℕ) → open_size s u ≡ o → o ≡ None
    by u None f = refl
    by u (Some size) f = absurd (nothing_listed turns size u e (q.all u size f))

pub first_is_least : (s : State) (routers size router : ℕ) (turns : Turns) → IsFirstTurn turns size router → IsTurn s routers size router → IsQueued s turns →
    IsLeast s routers router
first_is_least s routers size router turns f turn q = record { size = size; turn = turn; least = λ u other h e. f.least other u (q.all u other e) }

-- all of the first so many open routers are queued
pub record IsQueuedUpto (state : State) (turns : Turns) (upto : ℕ) : Type 0 where
  pub all : (u size : ℕ) → u < upto → open_size state u ≡ Some size → IsListed turns size u

pub queued_more : (s : State) (turns others : Turns) (upto : ℕ) → IsQueuedUpto s turns upto → KeepsListed turns others →
    ((size : ℕ) → open_size s upto ≡ Some size → IsListed others size upto) → IsQueuedUpto s others (upto + 1)
queued_more s turns others upto q kept here = record {
  all = λ u size h e.
      elim (cases_lt u upto) [
        | inl less ↦ kept.kept size u (q.all u size less e)
        | inr no_less ↦
            let same : u ≡ upto = omega arith in
            subst (λ (n : ℕ). IsListed others size n) (sym same) (here size (ap (open_size s) (sym same) ∙ e))
      ];
}

pub queued_all : (s : State) (turns : Turns) (upto : ℕ) → length s.bests ≤ upto → IsQueuedUpto s turns upto → IsQueued s turns
queued_all s turns upto total q = record { all = λ u size e. (let inside = open_inside s u size e in q.all u size (omega (arith, inside, total)) e) }
