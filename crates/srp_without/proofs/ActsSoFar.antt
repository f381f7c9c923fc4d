-- What acts accept, one after another.
use Rattle.std.proofs.Common.{◌≡◌, ℕ, ◌+◌, ◌-◌, ◌<◌, List, [], ◌∷◌, ◌++◌, length, take, get_or, refl, sym, ◌∙◌, ap, subst, arith, inl, inr}
use Rattle.std.proofs.lemmas.Bool.{cases_lt}
use Rattle.std.proofs.lemmas.List.{take_more, length_push, get_or_append_left, get_or-append_right}
use Rattle.srp_core.specs.declared.route.Act.{Act}
use Rattle.srp_core.specs.declared.route.Act.TheVariants.{Cost}
use Rattle.srp_without.specs.declared.accepted.Accepted.{Accepted}
use Rattle.srp_without.specs.declared.accepted.Accepted.TheVariants.{Nothing}
use Rattle.srp_without.specs.Accepting.{ActAccepts, IsAll, AreOfActs}

last_of : {X : Type 0} (xs : List X) (x d : X) (i : ℕ) → i ≡ length xs → get_or (xs ++ x ∷ []) i d ≡ x
last_of xs x d i e = get_or-append_right xs (x ∷ []) (length xs) i d refl (omega arith)
    ∙ ap (λ n. get_or (x ∷ []) n d) (let none : i - length xs ≡ 0 = omega arith in none)

module _ (acts : List Act) (act : Act) (accepted : List Accepted) (last : Accepted) where
  one_more : AreOfActs acts accepted → IsAll (ActAccepts act) last → AreOfActs (acts ++ act ∷ []) (accepted ++ last ∷ [])
  one_more are all = record {
    total = length_push accepted last ∙ ap (λ n. n + 1) are.total ∙ sym (length_push acts act);
    each = λ number lt. elim (cases_lt number (length acts)) [
      | inl before ↦ (
          let total = are.total in
          let here = get_or_append_left acts (act ∷ []) (Cost 0) number before in
          let there = get_or_append_left accepted (last ∷ []) Nothing number (omega arith) in
          let P : Accepted → Type 0 = λ y. IsAll (ActAccepts (get_or acts number (Cost 0))) y in
          let Q : Act → Type 0 = λ x. IsAll (ActAccepts x) (get_or (accepted ++ last ∷ []) number Nothing) in
          subst Q (sym here) (subst P (sym there) (are.each number before)))
      | inr past ↦ (
          let total = are.total in
          let long = length_push acts act in
          let here = last_of acts act (Cost 0) number (omega arith) in
          let there = last_of accepted last Nothing number (omega arith) in
          let P : Accepted → Type 0 = λ y. IsAll (ActAccepts act) y in
          let Q : Act → Type 0 = λ x. IsAll (ActAccepts x) (get_or (accepted ++ last ∷ []) number Nothing) in
          subst Q (sym here) (subst P (sym there) all))
    ];
  }

-- the act at the next place
pub of_acts_more : (acts : List Act) (i : ℕ) (act : Act) (accepted : List Accepted) (last : Accepted) → i < length acts → act ≡ get_or acts i act →
    AreOfActs (take i acts) accepted → IsAll (ActAccepts act) last → AreOfActs (take (i + 1) acts) (accepted ++ last ∷ [])
of_acts_more acts i act accepted last inside at are all =
    subst (λ l. AreOfActs l (accepted ++ last ∷ [])) (ap (λ x. take i acts ++ x ∷ []) at ∙ sym (take_more acts i act inside))
    (one_more (take i acts) act accepted last are all)
