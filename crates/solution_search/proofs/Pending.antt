-- Changes are undone, and what they put off.
use Rattle.std.proofs.Common.{◌≡◌, ℕ, zero, suc, ◌<◌, All, List, [], ◌∷◌, ◌++◌, length, set, Option, Some, None, refl, sym, ap, ◌∙◌, subst, inl, inr, arith, append-nil, append_assoc}
use Rattle.std.specs.Prelude.{Bool, true, false, slice_index_or, if◌then◌else◌}
use Rattle.std.proofs.Math.ListN.{length-set}
use Rattle.std.specs.List.{list_any}
use Rattle.std.proofs.lemmas.Bool.{cases_lt}
use Rattle.std.proofs.lemmas.List.{get_or_past, get_or-set_same}
use Rattle.std.proofs.lemmas.List.Elements.{All-pop, All-push}
use Rattle.srp_core.specs.declared.route.Route.{Route}
use Rattle.srp_core.specs.Stability.{label}
use Rattle.solution_search.specs.declared.bests.Best.{Best}
use Rattle.solution_search.specs.declared.bests.Difference.{Difference}
use Rattle.solution_search.specs.declared.bests.Rank.{Rank}
use Rattle.solution_search.specs.declared.bests.Rank.TheVariants as rank
use Rattle.solution_search.specs.declared.board.Board.{Board}
use Rattle.solution_search.specs.declared.board.Change.{Change}
use Rattle.solution_search.specs.declared.board.Change.TheVariants.{Settled, Waits, Offered, Fork}
use Rattle.solution_search.specs.declared.board.Tie.{Tie}
use Rattle.solution_search.specs.declared.board.Wait.{Wait}
use Rattle.solution_search.specs.Bests.{told}
use Rattle.solution_search.specs.Boards.{State, state_of, best_at, offer_back, is_fork, undo, undo_all, waits_for, put_off, pending, pending_of, GoesOn, IsWithin, IsTieWithin, Fits, noted_tie, noted_by, noted_at_take, SameButWaits, Puts, Takes}

undo_append : (xs ys : List Change) (s : State) → undo_all (xs ++ ys) s ≡ undo_all xs (undo_all ys s)
undo_append [] ys s = refl
undo_append (x ∷ xs) ys s = ap (undo x) (undo_append xs ys s)

pub pending_append : (xs ys : List Change) (s : State) → pending (xs ++ ys) s ≡ pending ys s ++ pending xs (undo_all ys s)
pending_append [] ys s = sym (append-nil (pending ys s))
pending_append (x ∷ xs) ys s = ap (λ (l : List State). l ++ put_off x (undo_all (xs ++ ys) s)) (pending_append xs ys s)
    ∙ ap (λ (t : State). (pending ys s ++ pending xs (undo_all ys s)) ++ put_off x t) (undo_append xs ys s)
    ∙ append_assoc (pending ys s) (pending xs (undo_all ys s)) (put_off x (undo_all xs (undo_all ys s)))

-- what the last change put off comes first
pub pending_last : (xs : List Change) (x : Change) (s : State) → pending (xs ++ x ∷ []) s ≡ put_off x s ++ pending xs (undo x s)
pending_last xs x s = pending_append xs (x ∷ []) s

-- where there is no fork, nothing is put off
pub none_pending : (changes : List Change) (s : State) → list_any is_fork changes ≡ false → pending changes s ≡ []
none_pending [] s e = refl
none_pending (Settled u lone tied ∷ changes) s e = ap (λ (l : List State). l ++ []) (none_pending changes s e)
none_pending (Waits u before ∷ changes) s e = ap (λ (l : List State). l ++ []) (none_pending changes s e)
none_pending (Offered u before ∷ changes) s e = ap (λ (l : List State). l ++ []) (none_pending changes s e)
none_pending (Fork wait ∷ changes) s e = absurd (cc)

pub same_state : (s t : State) → s.labels ≡ t.labels → s.waits ≡ t.waits → s.bests ≡ t.bests → s ≡ t
same_state s t p q r = λ i. record { labels = p i; waits = q i; bests = r i }

pub set_back : {X : Type 0} (xs : List X) (i : ℕ) (v d : X) → i < length xs → set (set xs i v) i (slice_index_or xs i d) ≡ xs
set_back [] i v d h = absurd (omega arith)
set_back (x ∷ xs) zero v d h = refl
set_back (x ∷ xs) (suc i) v d h = ap (λ l. x ∷ l) (set_back xs i v d (omega arith))

-- ---- going on

pub goes_same : (old new : Board) → state_of new ≡ state_of old → new.changes.items ≡ old.changes.items → GoesOn old new
goes_same old new s e = record { added = []; changes = e ∙ sym (append-nil old.changes.items); back = s; no_fork = refl }

pub goes_one : (old new : Board) (change : Change) → new.changes.items ≡ old.changes.items ++ change ∷ [] → undo change (state_of new) ≡ state_of old →
    put_off change (state_of new) ≡ [] → GoesOn old new
goes_one old new change e s none = record { added = change ∷ []; changes = e; back = s; no_fork = none }

pub goes_trans : (a b c : Board) → GoesOn a b → GoesOn b c → GoesOn a c
goes_trans a b c p q = record {
  added = p.added ++ q.added;
  changes = q.changes ∙ ap (λ (l : List Change). l ++ q.added) p.changes ∙ append_assoc a.changes.items p.added q.added;
  back = undo_append p.added q.added (state_of c) ∙ ap (undo_all p.added) q.back ∙ p.back;
  no_fork = pending_append p.added q.added (state_of c)
      ∙ ap (λ (l : List State). l ++ pending p.added (undo_all q.added (state_of c))) q.no_fork
      ∙ ap (pending p.added) q.back ∙ p.no_fork;
}

pub pending_kept : (old new : Board) → GoesOn old new → pending_of new ≡ pending_of old
pending_kept old new g = ap (λ (l : List Change). pending l (state_of new)) g.changes ∙ pending_append old.changes.items g.added (state_of new)
    ∙ ap (λ (l : List State). l ++ pending old.changes.items (undo_all g.added (state_of new))) g.no_fork
    ∙ ap (pending old.changes.items) g.back

pub put_goes : (old new : Board) (u : ℕ) (o : Option Best) → u < length old.bests.items → new.labels ≡ old.labels → new.waits.items ≡ old.waits.items →
    Puts old new u o → GoesOn old new
put_goes old new u None h l w put = goes_same old new (same_state (state_of new) (state_of old) l w put.0) put.1
put_goes old new u (Some b) h l w put = goes_one old new (Offered u (best_at old.bests.items u)) put.1
    (same_state (undo (Offered u (best_at old.bests.items u)) (state_of new)) (state_of old) l w
    (ap (λ (x : List (Option Best)). set x u (best_at old.bests.items u)) put.0 ∙ set_back old.bests.items u (Some b) None h)) refl

some_inside : (bests : List (Option Best)) (u : ℕ) (b : Best) → best_at bests u ≡ Some b → u < length bests
some_inside bests u b known = elim (cases_lt u (length bests)) [
  | inl h ↦ h
  | inr h ↦ (let none : best_at bests u ≡ None = get_or_past bests u None h in absurd (cc))
]

pub taken_goes : (old new : Board) (u : ℕ) (b : Best) → u < length old.labels → best_at old.bests.items u ≡ Some b → label old.labels u ≡ None →
    Takes old new u b → GoesOn old new
taken_goes old new u b h known e t = goes_one old new (Settled u b.lone b.tied) t.changes
    (same_state (undo (Settled u b.lone b.tied) (state_of new)) (state_of old)
    (ap (λ (l : List (Option Route)). set l u None) t.labels
    ∙ subst (λ (o : Option Route). set (set old.labels u (Some b.route)) u o ≡ old.labels) e (set_back old.labels u (Some b.route) None h))
    t.waits
    (ap (λ (x : List (Option Best)). set x u (offer_back (label new.labels u) b.lone b.tied)) t.bests
    ∙ ap (λ (o : Option Best). set (set old.bests.items u None) u o) back
    ∙ set_back old.bests.items u None None within)) refl
  where
    within : u < length old.bests.items
    within = some_inside old.bests.items u b known

    labelled : label new.labels u ≡ Some b.route
    labelled = ap (λ (l : List (Option Route)). label l u) t.labels ∙ get_or-set_same old.labels u (Some b.route) None h

    back : offer_back (label new.labels u) b.lone b.tied ≡ best_at old.bests.items u
    back = ap (λ (o : Option Route). offer_back o b.lone b.tied) labelled ∙ sym known

-- ---- fitting

within_noted : (n : ℕ) (tie : Option Tie) (u : ℕ) (by : Difference) → IsTieWithin n tie → u < n → IsTieWithin n (noted_tie tie u by)
within_noted n None u by t h = h
within_noted n (Some tie) u by t h = either (told (Some tie.by) by)
  where
    either : (b : Bool) → IsTieWithin n (if b then Some tie else Some (record { router = u; by = by }))
    either true = t
    either false = h

taken_within : (n : ℕ) (tie : Option Tie) (u : ℕ) (o : Option Difference) → IsTieWithin n tie → u < n → IsTieWithin n (noted_at_take tie u o)
taken_within n tie u None t h = t
taken_within n tie u (Some by) t h = within_noted n tie u by t h

pub rank_within : (n : ℕ) (tie : Option Tie) (u : ℕ) (r : Rank) → IsTieWithin n tie → u < n → IsTieWithin n (noted_by tie u r)
rank_within n tie u rank.Better t h = t
rank_within n tie u rank.Equal t h = t
rank_within n tie u rank.Worse t h = t
rank_within n tie u (rank.TiedBetter by) t h = within_noted n tie u by t h
rank_within n tie u (rank.TiedWorse by) t h = within_noted n tie u by t h

pub put_fits : (n : ℕ) (old new : Board) (u : ℕ) (o : Option Best) → Fits n old → u < n → new.labels ≡ old.labels → new.waits.items ≡ old.waits.items →
    Puts old new u o → IsTieWithin n new.tie → Fits n new
put_fits n old new u None f h l w put tie = record {
  labels = ap (λ (x : List (Option Route)). length x) l ∙ f.labels;
  waits = ap (λ (x : List (Option ℕ)). length x) w ∙ f.waits;
  bests = ap (λ (x : List (Option Best)). length x) put.0 ∙ f.bests;
  changes = subst (All (IsWithin n)) (sym put.1) f.changes;
  tie = tie;
}
put_fits n old new u (Some b) f h l w put tie = record {
  labels = ap (λ (x : List (Option Route)). length x) l ∙ f.labels;
  waits = ap (λ (x : List (Option ℕ)). length x) w ∙ f.waits;
  bests = ap (λ (x : List (Option Best)). length x) put.0 ∙ length-set old.bests.items u (Some b) ∙ f.bests;
  changes = subst (All (IsWithin n)) (sym put.1)
      (All-push (IsWithin n) old.changes.items (Offered u (best_at old.bests.items u)) f.changes h);
  tie = tie;
}

pub taken_fits : (n : ℕ) (old new : Board) (u : ℕ) (b : Best) → Fits n old → u < n → Takes old new u b → Fits n new
taken_fits n old new u b f h t = record {
  labels = ap (λ (x : List (Option Route)). length x) t.labels ∙ length-set old.labels u (Some b.route) ∙ f.labels;
  waits = ap (λ (x : List (Option ℕ)). length x) t.waits ∙ f.waits;
  bests = ap (λ (x : List (Option Best)). length x) t.bests ∙ length-set old.bests.items u None ∙ f.bests;
  changes = subst (All (IsWithin n)) (sym t.changes) (All-push (IsWithin n) old.changes.items (Settled u b.lone b.tied) f.changes h);
  tie = subst (IsTieWithin n) (sym t.tie) (taken_within n old.tie u b.tied f.tie h);
}

-- ---- going back

undone_lengths : (n : ℕ) (change : Change) (s t : State) → t ≡ undo change s → length s.labels ≡ n → length s.waits ≡ n → length s.bests ≡ n →
    (length t.labels ≡ n) × (length t.waits ≡ n) × (length t.bests ≡ n)
undone_lengths n (Settled u lone tied) s t e l w b = (
  ap (λ (x : State). length x.labels) e ∙ length-set s.labels u None ∙ l,
  ap (λ (x : State). length x.waits) e ∙ w,
  ap (λ (x : State). length x.bests) e ∙ length-set s.bests u (offer_back (label s.labels u) lone tied) ∙ b,
)
undone_lengths n (Waits u before) s t e l w b = (
  ap (λ (x : State). length x.labels) e ∙ l,
  ap (λ (x : State). length x.waits) e ∙ length-set s.waits u before ∙ w,
  ap (λ (x : State). length x.bests) e ∙ b,
)
undone_lengths n (Offered u before) s t e l w b = (
  ap (λ (x : State). length x.labels) e ∙ l,
  ap (λ (x : State). length x.waits) e ∙ w,
  ap (λ (x : State). length x.bests) e ∙ length-set s.bests u before ∙ b,
)
undone_lengths n (Fork wait) s t e l w b = (
  ap (λ (x : State). length x.labels) e ∙ l,
  ap (λ (x : State). length x.waits) e ∙ w,
  ap (λ (x : State). length x.bests) e ∙ b,
)

pub popped_fits : (n : ℕ) (old new : Board) (changes : List Change) (change : Change) → Fits n old → old.changes.items ≡ changes ++ change ∷ [] →
    state_of new ≡ undo change (state_of old) → new.changes.items ≡ changes → new.tie ≡ old.tie → Fits n new
popped_fits n old new changes change f e u c t =
    let l = undone_lengths n change (state_of old) (state_of new) u f.labels f.waits f.bests in
    let all = All-pop (IsWithin n) old.changes.items changes (Some change) e f.changes in
    record { labels = l.0; waits = l.1; bests = l.2; changes = subst (All (IsWithin n)) (sym c) all.0; tie = subst (IsTieWithin n) (sym t) f.tie }

-- what was put off before the last change was undone
popped : (old new : Board) (changes : List Change) (change : Change) → old.changes.items ≡ changes ++ change ∷ [] → state_of new ≡ undo change (state_of old) →
    new.changes.items ≡ changes → pending_of old ≡ put_off change (state_of old) ++ pending_of new
popped old new changes change e u c = ap (λ (l : List Change). pending l (state_of old)) e ∙ pending_last changes change (state_of old)
    ∙ ap (λ (s : State). put_off change (state_of old) ++ pending changes s) (sym u)
    ∙ ap (λ (l : List Change). put_off change (state_of old) ++ pending l (state_of new)) (sym c)

pub popped_fork : (old new : Board) (changes : List Change) (change : Change) (wait : Wait) → old.changes.items ≡ changes ++ change ∷ [] →
    state_of new ≡ undo change (state_of old) → new.changes.items ≡ changes → change ≡ Fork wait →
    pending_of old ≡ waits_for wait (state_of new) ∷ pending_of new
popped_fork old new changes change wait e u c f = popped old new changes change e u c
    ∙ ap (λ (x : Change). put_off x (state_of old) ++ pending_of new) f
    ∙ ap (λ (s : State). waits_for wait s ∷ pending_of new) (sym (u ∙ ap (λ (x : Change). undo x (state_of old)) f))

none_put_off : (change : Change) (s t : State) → put_off change s ≡ [] → put_off change t ≡ []
none_put_off (Settled u lone tied) s t e = refl
none_put_off (Waits u before) s t e = refl
none_put_off (Offered u before) s t e = refl
none_put_off (Fork wait) s t e = absurd (cc)

pub popped_other : (old new : Board) (changes : List Change) (change : Change) → old.changes.items ≡ changes ++ change ∷ [] →
    state_of new ≡ undo change (state_of old) → new.changes.items ≡ changes → put_off change (state_of new) ≡ [] → pending_of old ≡ pending_of new
popped_other old new changes change e u c none = popped old new changes change e u c
    ∙ ap (λ (l : List State). l ++ pending_of new) (none_put_off change (state_of new) (state_of old) none)

-- the board after a fork was taken off and its router waits
pub turned : (mid new : Board) (wait : Wait) → wait.router < length mid.waits.items → SameButWaits mid new →
    new.waits.items ≡ set mid.waits.items wait.router (Some wait.preference) →
    new.changes.items ≡ mid.changes.items ++ Waits wait.router (slice_index_or mid.waits.items wait.router None) ∷ [] →
    waits_for wait (state_of mid) ∷ pending_of mid ≡ state_of new ∷ pending_of new
turned mid new wait h same w c =
    let before : Change = Waits wait.router (slice_index_or mid.waits.items wait.router None) in
    let here : state_of new ≡ waits_for wait (state_of mid) = same_state (state_of new) (waits_for wait (state_of mid)) same.labels w same.bests in
    let back : undo before (state_of new) ≡ state_of mid = same_state (undo before (state_of new)) (state_of mid) same.labels
    (ap (λ (x : List (Option ℕ)). set x wait.router (slice_index_or mid.waits.items wait.router None)) w
    ∙ set_back mid.waits.items wait.router (Some wait.preference) None h) same.bests in
    let rest : pending_of new ≡ pending_of mid = ap (λ (l : List Change). pending l (state_of new)) c ∙ pending_last mid.changes.items before (state_of new)
    ∙ ap (pending mid.changes.items) back in
    ap (λ (x : State). x ∷ pending_of mid) (sym here) ∙ ap (λ (l : List State). state_of new ∷ l) (sym rest)

pub turned_fits : (n : ℕ) (mid new : Board) (wait : Wait) → Fits n mid → wait.router < n → SameButWaits mid new →
    new.waits.items ≡ set mid.waits.items wait.router (Some wait.preference) →
    new.changes.items ≡ mid.changes.items ++ Waits wait.router (slice_index_or mid.waits.items wait.router None) ∷ [] → Fits n new
turned_fits n mid new wait f h same w c = record {
  labels = ap (λ (x : List (Option Route)). length x) same.labels ∙ f.labels;
  waits = ap (λ (x : List (Option ℕ)). length x) w ∙ length-set mid.waits.items wait.router (Some wait.preference) ∙ f.waits;
  bests = ap (λ (x : List (Option Best)). length x) same.bests ∙ f.bests;
  changes = subst (All (IsWithin n)) (sym c)
      (All-push (IsWithin n) mid.changes.items (Waits wait.router (slice_index_or mid.waits.items wait.router None)) f.changes h);
  tie = subst (IsTieWithin n) (sym same.tie) f.tie;
}
