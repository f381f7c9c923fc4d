use Rattle.std.proofs.Common.{◌≡◌, ◌<◌, ◌∙◌, ap, sym, subst, arith, length, List, ℕ}
use Rattle.std.specs.List.{insert, remove}
use Rattle.policy_dd.specs.Tables.{key_of_case, keys_below}
use Rattle.policy_dd.proofs.TableLemmas.{below_within, put_there, put_new}
use Rattle.policy_dd.proofs.tables.put.Goals as goal

pub returns-then-has_key_at : goal.returns-then-has_key_at
returns-then-has_key_at c =
    let place : c.place_of-place.result ≡ keys_below c.args.key c.args.cases = c.place_of-place.ensures
    ∙ ap (λ (l : List (ℕ × ℕ)). keys_below c.args.key l) c.as_slice.ensures in
    let at = c.has_key_at.ensures.there c.if-has_key_at.true in
    let inside : c.place_of-place.result < length c.args.cases = subst (λ (l : List (ℕ × ℕ)). c.place_of-place.result < length l) c.as_slice-2.ensures at.0 in
    let here : key_of_case c.args.cases c.place_of-place.result ≡ c.args.key =
    ap (λ (l : List (ℕ × ℕ)). key_of_case l c.place_of-place.result) (sym c.as_slice-2.ensures) ∙ at.1 in
    c.in_ok-insert.ensures.ok
    ∙ ap (λ (l : List (ℕ × ℕ)). insert l c.place_of-place.result (c.args.key, c.args.node)) c.remove-old.ensures.rest
    ∙ ap (λ (i : ℕ). insert (remove c.args.cases i) i (c.args.key, c.args.node)) place
    ∙ put_there c.args.key c.args.node c.args.cases (subst (λ (i : ℕ). i < length c.args.cases) place inside)
    (ap (λ (i : ℕ). key_of_case c.args.cases i) (sym place) ∙ here)

pub insert-requires-2 : goal.insert-requires-2
insert-requires-2 c =
    let place : c.place_of-place.result ≡ keys_below c.args.key c.args.cases = c.place_of-place.ensures
    ∙ ap (λ (l : List (ℕ × ℕ)). keys_below c.args.key l) c.as_slice.ensures in
    let within = below_within c.args.key c.args.cases in
    omega arith

pub returns : goal.returns
returns c =
    let place : c.place_of-place.result ≡ keys_below c.args.key c.args.cases = c.place_of-place.ensures
    ∙ ap (λ (l : List (ℕ × ℕ)). keys_below c.args.key l) c.as_slice.ensures in
    c.in_ok-insert-2.ensures.ok
    ∙ ap (λ (i : ℕ). insert c.args.cases i (c.args.key, c.args.node)) place
    ∙ put_new c.args.key c.args.node c.args.cases (λ inside here. c.has_key_at.ensures.other c.if-has_key_at.false
    (subst (λ (l : List (ℕ × ℕ)). c.place_of-place.result < length l) (sym c.as_slice-2.ensures)
    (subst (λ (i : ℕ). i < length c.args.cases) (sym place) inside))
    (ap (λ (l : List (ℕ × ℕ)). key_of_case l c.place_of-place.result) c.as_slice-2.ensures ∙ ap (λ (i : ℕ). key_of_case c.args.cases i) place ∙ here))
