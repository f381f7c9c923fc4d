-- With no line at which there are too many communities there are few. Public: crates above may cite it.
use Rattle.std.proofs.Common.{◌≡◌, ◌≤◌, ℕ, zero, suc, ◌+◌, Bool, true, false, cond, List, [], ◌∷◌, length, None, nat_lt, nat_le, refl, ap, ◌∙◌, arith}
use Rattle.std.proofs.lemmas.Bool.Decides.{nat_tests}
use Rattle.cfg_ast.specs.declared.policy.Mention.{Mention}
use Rattle.cfg_ast.specs.meaning.PolicyFaults.{communities_of, communities_in, mentions, too_many_communities_lines}
use Rattle.cfg_check.specs.Communities.{mentions_up_to, exceeding_mentions, count_before, count_up_to}
use Rattle.cfg_check.specs.LeastLine.{least_line}
use Rattle.cfg_check.specs.Laws.{FewCommunities}
use Rattle.cfg_check.proofs.CommunityCounts.{before_first_line, before_next, exceeding_is, few_where, many_where}

few_up_to : (limit : ℕ) (ms : List Mention) (line : ℕ) → exceeding_mentions limit ms ≡ [] → count_before ms line ≤ limit → count_up_to ms line ≤ limit
few_up_to limit ms line none few = by (nat_lt limit (count_up_to ms line)) refl
  where
    by : (b : Bool) → nat_lt limit (count_up_to ms line) ≡ b → count_up_to ms line ≤ limit
    by true is =
        let found = exceeding_is limit ms line few (many_where (count_up_to ms line) limit is) in
        let nothing : least_line (exceeding_mentions limit ms) ≡ None = ap least_line none in
        absurd cc
    by false is = few_where (count_up_to ms line) limit is

few_before : (limit : ℕ) (ms : List Mention) → exceeding_mentions limit ms ≡ [] → (line : ℕ) → count_before ms line ≤ limit
few_before limit ms none zero = let first = before_first_line ms in omega arith
few_before limit ms none (suc line) =
    let same : suc line ≡ line + 1 = omega arith in
    let counts = ap (count_before ms) same in
    let next = before_next ms line in
    let few = few_up_to limit ms line none (few_before limit ms none line) in
    omega arith

-- a number that is no less than any line
bound_of : List Mention → ℕ
bound_of [] = 0
bound_of (m ∷ ms) = m.line + bound_of ms

within : (m bound : ℕ) → m ≤ bound → nat_le m bound ≡ true
within m bound le = grind (arith, nat_tests)

all_up_to : (bound : ℕ) (ms : List Mention) → bound_of ms ≤ bound → mentions_up_to ms bound ≡ ms
unfolding bound_of
all_up_to bound [] le = refl
all_up_to bound (m ∷ ms) le =
    ap (λ b. cond b (m ∷ mentions_up_to ms bound) (mentions_up_to ms bound)) (within m.line bound (omega arith))
    ∙ ap (λ (l : List Mention). m ∷ l) (all_up_to bound ms (omega arith))

few_in : (limit : ℕ) (ms : List Mention) → exceeding_mentions limit ms ≡ [] → length (communities_in ms) ≤ limit
few_in limit ms none =
    let bound = bound_of ms in
    let few = few_up_to limit ms bound none (few_before limit ms none bound) in
    let all = ap (λ (l : List Mention). length (communities_in l)) (all_up_to bound ms (omega arith)) in
    omega arith

pub few_communities : FewCommunities
unfolding communities_of too_many_communities_lines
few_communities n is = few_in 1024 (mentions n) is.too_many_communities
