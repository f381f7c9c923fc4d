use Rattle.std.proofs.Common.{◌≡◌, ℕ, ◌+◌, ◌++◌, ◌∷◌, [], List, ap, sym, ◌∙◌, append_assoc, map, arith}
use Rattle.std.specs.List.{range_with_len}
use Rattle.std.proofs.lemmas.List.FromFn.{map-range_with_len_more}
use Rattle.abstract_net.specs.declared.qlink.QLink.{QLink}
use Rattle.abstract_net.specs.Links.{group_link}
use Rattle.abstract_net.proofs.runs.push_joined.Goals as goal

one_more : (f : ℕ → QLink) (old links new : List QLink) (n : ℕ) (l : QLink) → links ≡ old ++ map f (range_with_len 0 n) → new ≡ links ++ l ∷ [] → l ≡ f n
    → new ≡ old ++ map f (range_with_len 0 (n + 1))
one_more f old links new n l before now is =
    now ∙ (λ i. before i ++ is i ∷ [])
    ∙ append_assoc old (map f (range_with_len 0 n)) (f n ∷ [])
    ∙ ap (λ (ls : List QLink). old ++ ls) (sym (map-range_with_len_more f 0 n n (omega arith)))

pub loop-place-preserved : goal.loop-place-preserved
loop-place-preserved c =
    one_more (group_link c.args.low c.args.high c.args.to_low.now c.args.to_high.now) _ _ _ c.loop-place.place _ c.loop-place.invariant c.in_ok-push.ensures.ok
    (cc)
