use Rattle.std.proofs.Common.{◌≡◌, ◌+◌, ◌||◌, ◌∙◌, ◌++◌, ◌∷◌, [], Bool, true, false, refl, ap, sym, arith, take, get_or, List, ℕ, nat_eq}
use Rattle.std.proofs.lemmas.List.{take_more, take_all}
use Rattle.base_kit.specs.Sets.{has, with_number}
use Rattle.base_kit.proofs.SetFacts.{has-with_number}
use Rattle.policy_dd.specs.Edge.{keys_of}
use Rattle.policy_dd.proofs.TableLemmas.{has-append, keys-append, at_item}
use Rattle.policy_dd.proofs.tables.with_keys.Goals as goal

or_false : (b : Bool) → b ≡ b || false
or_false true = refl
or_false false = refl

last_first : (a b n : Bool) → n || (a || b) ≡ a || (b || (n || false))
last_first true true true = refl
last_first true true false = refl
last_first true false true = refl
last_first true false false = refl
last_first false true true = refl
last_first false true false = refl
last_first false false n = refl

step : (set old : List ℕ) (cases : List (ℕ × ℕ)) (i key : ℕ) (case : ℕ × ℕ) → take (i + 1) cases ≡ take i cases ++ case ∷ [] → key ≡ case.0
    → ((k : ℕ) → has old k ≡ has set k || has (keys_of (take i cases)) k) → (k : ℕ)
    → has (with_number key old) k ≡ has set k || has (keys_of (take (i + 1) cases)) k
step set old cases i key case e is before k =
    has-with_number key old k ∙ ap (λ b. nat_eq key k || b) (before k)
    ∙ last_first (has set k) (has (keys_of (take i cases)) k) (nat_eq key k)
    ∙ ap (λ (n : ℕ). has set k || (has (keys_of (take i cases)) k || (nat_eq n k || false))) is
    ∙ ap (λ b. has set k || b) (sym (has-append (keys_of (take i cases)) (case.0 ∷ []) k))
    ∙ ap (λ (l : List ℕ). has set k || has l k) (sym (keys-append (take i cases) (case ∷ [])))
    ∙ ap (λ (l : List (ℕ × ℕ)). has set k || has (keys_of l) k) (sym e)

pub loop-case-init : goal.loop-case-init
loop-case-init c = λ k. or_false (has c.args.set k)

pub loop-case-preserved : goal.loop-case-preserved
loop-case-preserved c =
    let item = at_item c.args.cases.now c.loop-case.case-index c.case-item.result c.loop-case-test.true c.case-item.is in
    let key : c.key_in.result ≡ (get_or c.args.cases.now c.loop-case.case-index (0, 0)).0 = c.key_in.ensures ∙ ap (λ (p : ℕ × ℕ). p.0) item in
    rw c.in_ok-add.ensures.ok (step c.args.set c.loop-case.set c.args.cases.now c.loop-case.case-index c.key_in.result
    (get_or c.args.cases.now c.loop-case.case-index (0, 0)) (take_more c.args.cases.now c.loop-case.case-index (0, 0) c.loop-case-test.true) key
    c.loop-case.invariant)

pub returns : goal.returns
returns c =
    let e : take c.loop-case.case-index c.args.cases.now ≡ c.args.cases.now = take_all c.loop-case.case-index c.args.cases.now (omega arith) in
    λ k. c.loop-case.invariant k ∙ ap (λ (l : List (ℕ × ℕ)). has c.args.set k || has (keys_of l) k) e
