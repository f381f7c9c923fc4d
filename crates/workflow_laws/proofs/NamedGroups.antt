-- A text that spells a certificate has a line `group NAME ..` for each of its groups, in order.
--
-- 1. The names on a line lead to routers, which have these names.
-- 2. A line leaves the count of the named groups as it is and names none, or it names the next group.
-- 3. So the lines that are left name the groups that are left.
use Rattle.std.proofs.Common.{◌≡◌, inl, inr, ℕ, suc, zero, ◌+◌, Bool, true, false, cond, List, [], ◌∷◌, ◌++◌, length, map, get_or, drop, refl, sym}
use Rattle.std.proofs.Common.{ap, ◌∙◌, subst, arith, Option, Some, None, Result, Ok, Err, codes}
use Rattle.std.specs.Prelude.{◌⊎◌, bytes_eq, filter_map, nat_eq, option_map, slice_get}
use Rattle.std.specs.List.{cons_option, list_all}
use Rattle.std.proofs.lemmas.Bool.Decides.{nat_tests}
use Rattle.std.proofs.lemmas.List.Quantifiers.{position-Some}
use Rattle.std.proofs.lemmas.Slice.Eq.{bytes_eq-Decides}
use Rattle.base_kit.specs.declared.act_graph.ActGraph.{ActGraph}
use Rattle.base_kit.specs.declared.act_graph.Edge.{Edge}
use Rattle.base_kit.specs.Numbers.{number_of}
use Rattle.base_kit.specs.Options.{all_given}
use Rattle.cfg_ast.specs.text.Members.{all_lines_of}
use Rattle.cfg_ast.specs.text.TextLines.{TextLine, text_line}
use Rattle.cfg_ast.specs.text.Words.{is_router_name}
use Rattle.cut_certificate.specs.declared.certificate.Certificate.{Certificate}
use Rattle.cut_certificate.specs.declared.certificate.Split.{Split}
use Rattle.cut_certificate.specs.declared.refusal.CutKind.{CutKind}
use Rattle.cut_certificate.specs.declared.refusal.CutKind.TheVariants as kinds
use Rattle.cut_certificate.specs.declared.standing.Stage.{Stage}
use Rattle.cut_certificate.specs.declared.standing.Stage.TheVariants.{Opening, Splitting, Naming, Closed}
use Rattle.cut_certificate.specs.Blocks.{Blocks, groups_of, split_by}
use Rattle.cut_certificate.specs.Evenness.{are_even}
use Rattle.cut_certificate.specs.Forms.{CertificateLine, certificate_line_of, closing_form, divide, group_form, head_form, split_form}
use Rattle.cut_certificate.specs.Forms.CertificateLine.{Head, Divide, Group, End}
use Rattle.cut_certificate.specs.Printed.{printed_name}
use Rattle.cut_certificate.specs.Texts.{Standing, certificate_from, certificate_of, certificate_of_text, edge_named, ended, go_on, is_next_group}
use Rattle.cut_certificate.specs.Texts.{opening, router_named, routers_named, with_blocks, with_closing, with_edge, with_group, with_head, with_line}
use Rattle.cut_certificate.specs.Texts.{with_members, with_router, with_saying, with_split}
use Rattle.workflow_laws.specs.Certificates.{named_groups, names_on}

-- ---- names

same_name : (a b : List ℕ) → bytes_eq a b ≡ true → a ≡ b
same_name a b e = (bytes_eq-Decides a b).0 e

found_name : (names : List (List ℕ)) (name : List ℕ) (router : ℕ) → router_named names name ≡ Some router → name ≡ printed_name names router
found_name names name router e = same_name name (get_or names router []) (position-Some (bytes_eq name) names router [] e).1

abbrev AreFound : List (List ℕ) → List (List ℕ) → Type 0
AreFound names words = (members : List ℕ) → routers_named (router_named names) words ≡ Some members → words ≡ map (printed_name names) members

found_names : (names words : List (List ℕ)) (members : List ℕ) → routers_named (router_named names) words ≡ Some members
    → words ≡ map (printed_name names) members
found_names names [] members e = (let none : [] ≡ members = cc in ap (map (printed_name names)) none)
found_names names (word ∷ words) members e = by (found_names names words) (router_named names word) refl e
  where
    rest : AreFound names words → (router : ℕ) → word ≡ printed_name names router → (o : Option (List ℕ)) → routers_named (router_named names) words ≡ o
        → option_map (λ more. router ∷ more) o ≡ Some members → word ∷ words ≡ map (printed_name names) members
    rest found router is (Some more) all e =
        let both : router ∷ more ≡ members = cc in
        (λ j. is j ∷ found more all j) ∙ ap (map (printed_name names)) both
    rest found router is None all e = absurd cc

    by : AreFound names words → (o : Option ℕ) → router_named names word ≡ o → all_given (o ∷ map (router_named names) words) ≡ Some members
        → word ∷ words ≡ map (printed_name names) members
    by found (Some router) is e = rest found router (found_name names word router is) (routers_named (router_named names) words) refl e
    by found None is e = absurd cc

-- ---- what a line says

-- a line that names no group has another first word, and one that names a group has its names
abbrev IsSaid : List ℕ → List (List ℕ) → CertificateLine → Type 0
IsSaid word words Head = names_on (word ∷ words) ≡ None
IsSaid word words (Divide block by name link) = names_on (word ∷ words) ≡ None
IsSaid word words (Group names) = names_on (word ∷ words) ≡ Some names
IsSaid word words End = names_on (word ∷ words) ≡ None

not_group : (word : List ℕ) (words : List (List ℕ)) → bytes_eq word (codes "group") ≡ false → names_on (word ∷ words) ≡ None
not_group word words e = rw e refl

other_word : (word other : List ℕ) (words : List (List ℕ)) → bytes_eq word other ≡ true → bytes_eq other (codes "group") ≡ false
    → names_on (word ∷ words) ≡ None
other_word word other words e f = not_group word words (ap (λ (w : List ℕ). bytes_eq w (codes "group")) (same_name word other e) ∙ f)

head_said : (word : List ℕ) (words : List (List ℕ)) (l : CertificateLine) → names_on (word ∷ words) ≡ None → head_form words ≡ Some l → IsSaid word words l
head_said word (what ∷ version ∷ []) l none e = by (bytes_eq what (codes "certificate")) (bytes_eq version (codes "1")) e
  where
    by : (a b : Bool) → cond a (cond b (Some Head) None) None ≡ Some l → IsSaid word (what ∷ version ∷ []) l
    by true true e = let is : Head ≡ l = cc in subst (IsSaid word (what ∷ version ∷ [])) is none
    by true false e = absurd cc
    by false b e = absurd cc
head_said word [] l none e = absurd cc
head_said word (what ∷ []) l none e = absurd cc
head_said word (what ∷ version ∷ more ∷ words) l none e = absurd cc

divide_said : (word : List ℕ) (words : List (List ℕ)) (l : CertificateLine) → names_on (word ∷ words) ≡ None → split_form words ≡ Some l → IsSaid word words l
divide_said word (block ∷ other ∷ name ∷ link ∷ []) l none e = over (is_router_name name) (number_of block) (number_of other) (number_of link) e
  where
    over : (b : Bool) (x y z : Option ℕ) → cond b (divide x y name z) None ≡ Some l → IsSaid word (block ∷ other ∷ name ∷ link ∷ []) l
    over true (Some x) (Some y) (Some z) e = let is : Divide x y name z ≡ l = cc in subst (IsSaid word (block ∷ other ∷ name ∷ link ∷ [])) is none
    over true None y z e = absurd cc
    over true (Some x) None z e = absurd cc
    over true (Some x) (Some y) None e = absurd cc
    over false x y z e = absurd cc
divide_said word [] l none e = absurd cc
divide_said word (a ∷ []) l none e = absurd cc
divide_said word (a ∷ b ∷ []) l none e = absurd cc
divide_said word (a ∷ b ∷ c ∷ []) l none e = absurd cc
divide_said word (a ∷ b ∷ c ∷ d ∷ f ∷ words) l none e = absurd cc

group_said : (word : List ℕ) (words : List (List ℕ)) (l : CertificateLine) → bytes_eq word (codes "group") ≡ true → group_form words ≡ Some l
    → IsSaid word words l
group_said word [] l is e = absurd cc
group_said word (name ∷ names) l is e = over (list_all is_router_name (name ∷ names)) e
  where
    over : (b : Bool) → cond b (Some (Group (name ∷ names))) None ≡ Some l → IsSaid word (name ∷ names) l
    over true e = let same : Group (name ∷ names) ≡ l = cc in subst (IsSaid word (name ∷ names)) same (rw is refl)
    over false e = absurd cc

end_said : (word : List ℕ) (words : List (List ℕ)) (l : CertificateLine) → names_on (word ∷ words) ≡ None → closing_form words ≡ Some l → IsSaid word words l
end_said word [] l none e = let is : End ≡ l = cc in subst (IsSaid word []) is none
end_said word (a ∷ words) l none e = absurd cc

line_said : (word : List ℕ) (words : List (List ℕ)) (l : CertificateLine) → certificate_line_of word words ≡ Some l → IsSaid word words l
unfolding certificate_line_of
line_said word words l e =
    by (bytes_eq word (codes "bonsai")) refl (bytes_eq word (codes "split")) refl (bytes_eq word (codes "group")) refl (bytes_eq word (codes "end")) refl e
  where
    by : (a : Bool) → bytes_eq word (codes "bonsai") ≡ a → (b : Bool) → bytes_eq word (codes "split") ≡ b → (c : Bool) → bytes_eq word (codes "group") ≡ c
        → (d : Bool) → bytes_eq word (codes "end") ≡ d
        → cond a (head_form words) (cond b (split_form words) (cond c (group_form words) (cond d (closing_form words) None))) ≡ Some l → IsSaid word words l
    by true f b g c h d k e = head_said word words l (other_word word (codes "bonsai") words f refl) e
    by false f true g c h d k e = divide_said word words l (other_word word (codes "split") words g refl) e
    by false f false g true h d k e = group_said word words l h e
    by false f false g false h true k e = end_said word words l (other_word word (codes "end") words k refl) e
    by false f false g false h false k e = absurd cc

-- ---- what a line changes

-- groups are being named, or all are
abbrev IsLate : Stage → Type 0
IsLate Naming = Unit {0}
IsLate Closed = Unit {0}
IsLate other = ⊥

abbrev total : Standing → ℕ
total s = length (groups_of s.blocks.numbers)

-- none is named before, and all behind the end
abbrev Fits : Stage → Standing → Type 0
Fits Naming s = Unit {0}
Fits Closed s = s.named ≡ total s
Fits other s = s.named ≡ 0

module _ (edges : List Edge) (names : List (List ℕ)) where
  -- a line that names no group
  record IsQuiet (s next : Standing) (words : List (List ℕ)) : Type 0 where
    none : names_on words ≡ None
    named : next.named ≡ s.named
    late : IsLate s.stage → IsLate next.stage × (next.blocks ≡ s.blocks)
    fits : Fits s.stage s → Fits next.stage next

  -- a line that names the next group
  record IsNaming (s next : Standing) (words : List (List ℕ)) : Type 0 where
    members : List ℕ
    named : names_on words ≡ Some (map (printed_name names) members)
    group : slice_get (groups_of s.blocks.numbers) s.named ≡ Some members
    is : next ≡ record s { stage = Naming; named = s.named + 1 }

  abbrev IsEither : Standing → Standing → List (List ℕ) → Type 0
  IsEither s next words = IsQuiet s next words ⊎ IsNaming s next words

  module _ (s next : Standing) (words : List (List ℕ)) where
    head_quiet : (stage : Stage) → s.stage ≡ stage → names_on words ≡ None → with_head s stage ≡ Ok next → IsQuiet s next words
    head_quiet Opening is none e =
        let same : record s { stage = Splitting } ≡ next = cc in
        subst (λ (t : Standing). IsQuiet s t words) same (record {
          none = none;
          named = refl;
          late = λ late. absurd (subst IsLate is late);
          fits = λ fits. subst (λ stage. Fits stage s) is fits;
        })
    head_quiet Splitting is none e = absurd cc
    head_quiet Naming is none e = absurd cc
    head_quiet Closed is none e = absurd cc

    blocks_quiet : (split : Split) (r : Result Blocks CutKind) → s.stage ≡ Splitting → names_on words ≡ None → with_blocks s split r ≡ Ok next
        → IsQuiet s next words
    blocks_quiet split (Err kind) is none e = absurd cc
    blocks_quiet split (Ok blocks) is none e =
        let same : record s { splits = s.splits ++ split ∷ []; blocks = blocks } ≡ next = cc in
        subst (λ (t : Standing). IsQuiet s t words) same (record {
          none = none;
          named = refl;
          late = λ late. absurd (subst IsLate is late);
          fits =
              λ fits. (let zero : s.named ≡ 0 =
              subst (λ stage. Fits stage s) is fits in subst (λ stage. Fits stage (record s {
                splits =
                    s.splits ++ split ∷ [];
                blocks = blocks;
              })) (sym is) zero);
        })

    edge_quiet : (block by : ℕ) (found : Option ℕ) → s.stage ≡ Splitting → names_on words ≡ None → with_edge edges s block by found ≡ Ok next
        → IsQuiet s next words
    edge_quiet block by None is none e = absurd cc
    edge_quiet block by (Some place) is none e =
        blocks_quiet (record { block = block; by = by; edge = place }) (split_by edges s.blocks (record { block = block; by = by; edge = place })) is none e

    router_quiet : (block by link : ℕ) (found : Option ℕ) → s.stage ≡ Splitting → names_on words ≡ None → with_router edges s block by link found ≡ Ok next
        → IsQuiet s next words
    router_quiet block by link None is none e = absurd cc
    router_quiet block by link (Some router) is none e = edge_quiet block by (edge_named edges router link) is none e

    split_quiet : (block by : ℕ) (name : List ℕ) (link : ℕ) (stage : Stage) → s.stage ≡ stage → names_on words ≡ None
        → with_split edges (router_named names) s block by name link stage ≡ Ok next → IsQuiet s next words
    split_quiet block by name link Splitting is none e = router_quiet block by link (router_named names name) is none e
    split_quiet block by name link Opening is none e = absurd cc
    split_quiet block by name link Naming is none e = absurd cc
    split_quiet block by name link Closed is none e = absurd cc

    -- the next group has exactly these members
    next_group : (found : Option (List ℕ)) (members : List ℕ) → is_next_group found members ≡ true → found ≡ Some members
    next_group None members e = absurd cc
    next_group (Some group) members e = ap (λ (xs : List ℕ). Some xs) (same_name group members e)

    members_named : (given : List (List ℕ)) (found : Option (List ℕ)) → names_on words ≡ Some given → routers_named (router_named names) given ≡ found
        → with_members s found ≡ Ok next → IsNaming s next words
    members_named given None on is e = absurd cc
    members_named given (Some members) on is e = by (is_next_group (slice_get (groups_of s.blocks.numbers) s.named) members) refl e
      where
        by : (b : Bool) → is_next_group (slice_get (groups_of s.blocks.numbers) s.named) members ≡ b → cond b (Ok (record s {
          stage =
              Naming;
          named = s.named + 1;
        })) (Err kinds.WrongGroups) ≡ Ok next → IsNaming s next words
        by true next_is e = record {
          members = members;
          named = on ∙ ap (λ (ns : List (List ℕ)). Some ns) (found_names names given members is);
          group = next_group (slice_get (groups_of s.blocks.numbers) s.named) members next_is;
          is = (let same : record s { stage = Naming; named = s.named + 1 } ≡ next = cc in sym same);
        }
        by false next_is e = absurd cc

    group_named : (given : List (List ℕ)) (stage : Stage) → names_on words ≡ Some given → with_group (router_named names) s given stage ≡ Ok next
        → IsNaming s next words
    group_named given Splitting on e = members_named given (routers_named (router_named names) given) on refl e
    group_named given Naming on e = members_named given (routers_named (router_named names) given) on refl e
    group_named given Opening on e = absurd cc
    group_named given Closed on e = absurd cc

    close_quiet : (a b : Bool) → names_on words ≡ None → nat_eq s.named (total s) ≡ a → cond a (cond b (Ok (record s {
      stage =
          Closed;
    })) (Err kinds.NotAdmissible)) (Err kinds.WrongGroups) ≡ Ok next → IsQuiet s next words
    close_quiet false b none all e = absurd cc
    close_quiet true false none all e = absurd cc
    close_quiet true true none all e =
        let same : record s { stage = Closed } ≡ next = cc in
        let every : s.named ≡ total s = grind (arith, nat_tests) in
        subst (λ (t : Standing). IsQuiet s t words) same (record { none = none; named = refl; late = λ late. (tt, refl); fits = λ fits. every })

    end_quiet : (stage : Stage) → names_on words ≡ None → with_closing edges s stage ≡ Ok next → IsQuiet s next words
    end_quiet Splitting none e = close_quiet (nat_eq s.named (total s)) (are_even edges s.blocks.numbers) none refl e
    end_quiet Naming none e = close_quiet (nat_eq s.named (total s)) (are_even edges s.blocks.numbers) none refl e
    end_quiet Opening none e = absurd cc
    end_quiet Closed none e = absurd cc

  line_either : (s next : Standing) (words : List (List ℕ)) → with_line edges (router_named names) s words ≡ Ok next → IsEither s next words
  line_either s next [] e =
      let same : s ≡ next = cc in
      inl (subst (λ (t : Standing). IsQuiet s t []) same (record { none = refl; named = refl; late = λ late. (late, refl); fits = λ fits. fits }))
  line_either s next (word ∷ words) e = by (certificate_line_of word words) refl e
    where
      by : (o : Option CertificateLine) → certificate_line_of word words ≡ o → with_saying edges (router_named names) s o ≡ Ok next
          → IsEither s next (word ∷ words)
      by None is e = absurd cc
      by (Some Head) is e = inl (head_quiet s next (word ∷ words) s.stage refl (line_said word words Head is) e)
      by (Some (Divide block other name link)) is e =
          inl (split_quiet s next (word ∷ words) block other name link s.stage refl (line_said word words (Divide block other name link) is) e)
      by (Some (Group given)) is e = inr (group_named s next (word ∷ words) given s.stage (line_said word words (Group given) is) e)
      by (Some End) is e = inl (end_quiet s next (word ∷ words) s.stage (line_said word words End is) e)

  -- ---- the lines that are left

  abbrev on_lines : List TextLine → List (List (List ℕ))
  on_lines ls = filter_map (λ (l : TextLine). names_on l.words) ls

  -- the lines that are left name the groups that are left
  record AreLeft (s : Standing) (ls : List TextLine) (c : Certificate) : Type 0 where
    late : IsLate s.stage → c.groups ≡ groups_of s.blocks.numbers
    named : on_lines ls ≡ map (map (printed_name names)) (drop s.named c.groups)

  drop_all : {X : Type 0} (xs : List X) (n : ℕ) → n ≡ length xs → drop n xs ≡ []
  drop_all xs n e = ap (λ k. drop k xs) e ∙ none xs
    where
      none : {X : Type 0} (xs : List X) → drop (length xs) xs ≡ []
      none [] = refl
      none (x ∷ xs) = none xs

  drop_next : {X : Type 0} (xs : List X) (n : ℕ) (x : X) → slice_get xs n ≡ Some x → drop n xs ≡ x ∷ drop (n + 1) xs
  drop_next [] n x e = absurd cc
  drop_next (y ∷ xs) zero x e = let same : y ≡ x = cc in ap (λ z. z ∷ xs) same
  drop_next (y ∷ xs) (suc n) x e = drop_next xs n x e ∙ (let k : suc (n + 1) ≡ suc n + 1 = omega arith in ap (λ j. x ∷ drop j (y ∷ xs)) k)

  ended_left : (line : ℕ) (s : Standing) (stage : Stage) (c : Certificate) → s.stage ≡ stage → Fits s.stage s → ended line s stage ≡ Ok c → AreLeft s [] c
  ended_left line s Closed c is fits e =
      let same : certificate_of s ≡ c = cc in
      subst (AreLeft s []) same (record {
        late = λ late. refl;
        named = ap (map (map (printed_name names))) (sym (drop_all (groups_of s.blocks.numbers) s.named (subst (λ stage. Fits stage s) is fits)));
      })
  ended_left line s Opening c is fits e = absurd cc
  ended_left line s Splitting c is fits e = absurd cc
  ended_left line s Naming c is fits e = absurd cc

  lines_left : (line : ℕ) (ls : List TextLine) (s : Standing) (c : Certificate) → Fits s.stage s
      → certificate_from edges (router_named names) line ls s ≡ Ok c → AreLeft s ls c
  unfolding certificate_from
  lines_left line [] s c fits e = ended_left line s s.stage c refl fits e
  lines_left line (l ∷ ls) s c fits e = by (λ (next : Standing). lines_left line ls next c) (with_line edges (router_named names) s l.words) refl e
    where
      quiet : (next : Standing) → IsQuiet s next l.words → AreLeft next ls c → AreLeft s (l ∷ ls) c
      quiet next q left = record {
        late = λ late. (let kept = q.late late in left.late kept.0 ∙ ap (λ (b : Blocks). groups_of b.numbers) kept.1);
        named =
            ap (λ (o : Option (List (List ℕ))). cons_option o (on_lines ls)) q.none ∙ left.named
            ∙ ap (λ k. map (map (printed_name names)) (drop k c.groups)) q.named;
      }

      naming : (next : Standing) → IsNaming s next l.words → AreLeft next ls c → AreLeft s (l ∷ ls) c
      naming next n left =
          let after = subst (λ (t : Standing). AreLeft t ls c) n.is left in
          let all : c.groups ≡ groups_of s.blocks.numbers = after.late tt in
          let here : drop s.named c.groups ≡ n.members ∷ drop (s.named + 1) c.groups =
          drop_next c.groups s.named n.members (ap (λ (gs : List (List ℕ)). slice_get gs s.named) all ∙ n.group) in
          record {
            late = λ late. all;
            named =
                ap (λ (o : Option (List (List ℕ))). cons_option o (on_lines ls)) n.named
                ∙ ap (λ (ns : List (List (List ℕ))). map (printed_name names) n.members ∷ ns) after.named ∙ ap (map (map (printed_name names))) (sym here);
          }

      by : ((next : Standing) → Fits next.stage next → certificate_from edges (router_named names) line ls next ≡ Ok c → AreLeft next ls c)
          → (r : Result Standing CutKind) → with_line edges (router_named names) s l.words ≡ r
          → go_on l.number r (certificate_from edges (router_named names) line ls) ≡ Ok c → AreLeft s (l ∷ ls) c
      by rest (Err kind) is e = absurd cc
      by rest (Ok next) is e = elim (line_either s next l.words is) [
        | inl q ↦ quiet next q (rest next (q.fits fits) e)
        | inr n ↦ naming next n (rest next (subst (λ (t : Standing). Fits t.stage t) (sym n.is) tt) e)
      ]

pub names_its_groups : (graph : ActGraph) (names : List (List ℕ)) (text : List ℕ) (c : Certificate) → certificate_of_text graph names text ≡ Ok c
    → named_groups text ≡ map (map (printed_name names)) c.groups
unfolding certificate_of_text
names_its_groups graph names text c e =
    (lines_left graph.edges names (length (all_lines_of text) + 1) (map (text_line text) (all_lines_of text)) (opening graph) c refl e).named
