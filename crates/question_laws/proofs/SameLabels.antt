-- What routes of one key have in common.
use Rattle.std.proofs.Common.{◌≡◌, ◌≢◌, ℕ, List, Option, Some, None, sym, ◌∙◌, ap, subst}
use Rattle.std.specs.Prelude.{Contains}
use Rattle.srp_core.specs.declared.route.Route.{Route}
use Rattle.srp_core.specs.Problem.{Problem, key_of}
use Rattle.srp_core.specs.Routes.{comms_of, Key}
use Rattle.srp_core.specs.Stability.{HaveSameKeys, both_none, both_some}

pub other_way : (A B : Problem) (a b : Option Route) → HaveSameKeys A B a b → HaveSameKeys B A b a
other_way A B a b (both_none e f) = both_none f e
other_way A B a b (both_some r s e f k) = both_some s r f e (sym k)

one_some : (a : Option Route) (r s : Route) → a ≡ Some r → a ≡ Some s → r ≡ s
one_some None r s e f = absurd cc
one_some (Some x) r s e f = (let one : x ≡ r = cc in let two : x ≡ s = cc in sym one ∙ two)

pub on : (A B C : Problem) (a b c : Option Route) → HaveSameKeys A B a b → HaveSameKeys B C b c → HaveSameKeys A C a c
on A B C a b c (both_none e f) (both_none f' h) = both_none e h
on A B C a b c (both_none e f) (both_some r s f' h k) = absurd cc
on A B C a b c (both_some r s e f k) (both_none f' h) = absurd cc
on A B C a b c (both_some r s e f k) (both_some r' s' f' h k') = both_some r s' e h (k ∙ ap (key_of B) (one_some b s r' f f') ∙ k')

pub still_some : (A B : Problem) (a b : Option Route) → HaveSameKeys A B a b → a ≢ None → b ≢ None
still_some A B a b (both_none e f) some = absurd (some e)
still_some A B a b (both_some r s e f k) some = λ none. absurd cc

pub still_none : (A B : Problem) (a b : Option Route) → HaveSameKeys A B a b → a ≡ None → b ≡ None
still_none A B a b (both_none e f) none = f
still_none A B a b (both_some r s e f k) none = absurd cc

-- a route of the one has the communities of a route of the other
pub comms_there : (A B : Problem) (a b : Option Route) → HaveSameKeys A B a b → (s : Route) → b ≡ Some s →
    (r : Route) × (a ≡ Some r) × (comms_of r ≡ comms_of s)
comms_there A B a b (both_none e f) s at = absurd cc
comms_there A B a b (both_some r t e f k) s at = (r, e, ap (λ (key : Key). key.comms) k ∙ ap comms_of (one_some b t s f at))

pub still_holds : (A B : Problem) (a b : Option Route) (community : ℕ) → HaveSameKeys A B a b →
    ((r : Route) → a ≡ Some r → Contains (comms_of r) community) → (s : Route) → b ≡ Some s → Contains (comms_of s) community
still_holds A B a b community same holds s at =
    let t = comms_there A B a b same s at in subst (λ (l : List ℕ). Contains l community) t.2 (holds t.0 t.1)

pub still_lacks : (A B : Problem) (a b : Option Route) (community : ℕ) → HaveSameKeys A B a b →
    ((r : Route) → a ≡ Some r → ¬ Contains (comms_of r) community) → (s : Route) → b ≡ Some s → ¬ Contains (comms_of s) community
still_lacks A B a b community same lacks s at there =
    let t = comms_there A B a b same s at in lacks t.0 t.1 (subst (λ (l : List ℕ). Contains l community) (sym t.2) there)
