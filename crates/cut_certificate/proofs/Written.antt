-- The text that is written, line by line and word by word.
use Rattle.std.proofs.Common.{◌≡◌, ℕ, zero, suc, ◌+◌, ◌<◌, ◌≤◌, List, [], ◌∷◌, ◌++◌, length, map, flat_map, get_or, drop, All, refl, sym, ap, ◌∙◌, subst, arith, append_assoc, append-nil, codes}
use Rattle.std.specs.List.{join_with_byte}
use Rattle.std.proofs.lemmas.Grind.{flat_map-append}
use Rattle.std.proofs.lemmas.List.{drop_all}
use Rattle.base_kit.specs.declared.act_graph.Edge.{Edge}
use Rattle.base_kit.specs.declared.act_graph.ActGraph.{ActGraph}
use Rattle.cfg_ast.specs.printing.Printed.{line_text, lines_text}
use Rattle.cfg_ast.specs.text.TextLines.{TextLine}
use Rattle.cut_certificate.specs.declared.certificate.Split.{Split}
use Rattle.cut_certificate.specs.declared.certificate.Certificate.{Certificate}
use Rattle.cut_certificate.specs.Blocks.{Blocks, first_blocks, groups_of}
use Rattle.cut_certificate.specs.Certificates.{AreAfter, IsAccepted}
use Rattle.cut_certificate.specs.Printed.{printed_name, edge_importer, edge_link, head_line, split_line, named_group_line, end_line, certificate_text}
use Rattle.cut_certificate.proofs.Grouped.{groups_in_range}
use Rattle.cut_certificate.proofs.Reached.{first_reached, all_reached}
use Rattle.cut_certificate.proofs.Scans.{first_left}

-- each word behind a blank
abbrev pub spaced : List (List ℕ) → List ℕ
spaced words = flat_map (λ (w : List ℕ). 32 ∷ w) words

joined : (word : List ℕ) (words : List (List ℕ)) → join_with_byte 32 (word ∷ words) ≡ word ++ spaced words
joined word [] = sym (append-nil word)
joined word (next ∷ words) = ap (λ (xs : List ℕ). word ++ 32 ∷ xs) (joined next words)

-- one line more of those that are left
pub line_more : {X : Type 0} (write : X → TextLine) (xs : List X) (k : ℕ) (d : X) (old new all : List ℕ) → k < length xs
    → new ≡ old ++ line_text (write (get_or xs k d)) → old ++ lines_text (map write (drop k xs)) ≡ all → new ++ lines_text (map write (drop (k + 1) xs)) ≡ all
line_more write xs k d old new all h grown before =
    ap (λ (t : List ℕ). t ++ lines_text (map write (drop (k + 1) xs))) grown
    ∙ append_assoc old (line_text (write (get_or xs k d))) (lines_text (map write (drop (k + 1) xs)))
    ∙ sym (ap (λ ys. old ++ lines_text (map write ys)) (first_left xs k d h)) ∙ before

pub lines_done : {X : Type 0} (write : X → TextLine) (xs : List X) (k : ℕ) (text all : List ℕ) → length xs ≤ k
    → text ++ lines_text (map write (drop k xs)) ≡ all → text ≡ all
lines_done write xs k text all le before = sym (ap (λ ys. text ++ lines_text (map write ys)) (drop_all k xs le) ∙ append-nil text) ∙ before

-- ---- a group

pub member_more : (names : List (List ℕ)) (members : List ℕ) (k : ℕ) (old mid new all : List ℕ) → k < length members → mid ≡ old ++ 32 ∷ []
    → new ≡ mid ++ printed_name names (get_or members k 0) → old ++ spaced (map (printed_name names) (drop k members)) ≡ all
    → new ++ spaced (map (printed_name names) (drop (k + 1) members)) ≡ all
member_more names members k old mid new all h first second before =
    let name = printed_name names (get_or members k 0) in
    let rest = spaced (map (printed_name names) (drop (k + 1) members)) in
    ap (λ (t : List ℕ). t ++ rest) (second ∙ ap (λ (t : List ℕ). t ++ name) first) ∙ regrouped old (32 ∷ []) name rest
    ∙ sym (ap (λ ys. old ++ spaced (map (printed_name names) ys)) (first_left members k 0 h)) ∙ before
  where
    regrouped : (a b c d : List ℕ) → ((a ++ b) ++ c) ++ d ≡ a ++ ((b ++ c) ++ d)
    regrouped a b c d = simp append_assoc

pub group_written : (names : List (List ℕ)) (members : List ℕ) (k : ℕ) (old text all : List ℕ) → length members ≤ k
    → text ++ spaced (map (printed_name names) (drop k members)) ≡ old ++ codes "group" ++ spaced (map (printed_name names) members) → all ≡ text ++ 10 ∷ []
    → all ≡ old ++ line_text (named_group_line names members)
group_written names members k old text all le before last =
    let words = map (printed_name names) members in
    let whole : text ≡ old ++ codes "group" ++ spaced words =
    sym (ap (λ ys. text ++ spaced (map (printed_name names) ys)) (drop_all k members le) ∙ append-nil text) ∙ before in
    last ∙ ap (λ (t : List ℕ). t ++ 10 ∷ []) whole ∙ regrouped old (codes "group") (spaced words) (10 ∷ [])
    ∙ ap (λ (t : List ℕ). old ++ (t ++ 10 ∷ [])) (sym (joined (codes "group") words))
  where
    regrouped : (a b c d : List ℕ) → ((a ++ b) ++ c) ++ d ≡ a ++ ((b ++ c) ++ d)
    regrouped a b c d = simp append_assoc

-- ---- what is named

pub importer_is : (edges : List Edge) (k : ℕ) (d : Edge) → k < length edges → edge_importer edges k ≡ (get_or edges k d).importer
importer_is [] k d h = absurd (omega arith)
importer_is (e ∷ edges) zero d h = refl
importer_is (e ∷ edges) (suc k) d h = importer_is edges k d (omega arith)

pub link_is : (edges : List Edge) (k : ℕ) (d : Edge) → k < length edges → edge_link edges k ≡ (get_or edges k d).link
link_is [] k d h = absurd (omega arith)
link_is (e ∷ edges) zero d h = refl
link_is (e ∷ edges) (suc k) d h = link_is edges k d (omega arith)

pub splits_known : (graph : ActGraph) (splits : List Split) (first last : Blocks) → AreAfter graph first splits last
    → All (λ (s : Split). s.edge < length graph.edges) splits
splits_known graph [] first last after = λ k d h. absurd (omega arith)
splits_known graph (split ∷ splits) first last (next, inside, made, rest) = λ k d h. at k d h (splits_known graph splits next last rest)
  where
    at : (k : ℕ) (d : Split) → k < length (split ∷ splits) → All (λ (s : Split). s.edge < length graph.edges) splits
        → (get_or (split ∷ splits) k d).edge < length graph.edges
    at zero d h later = inside
    at (suc k) d h later = later k d (omega arith)

pub groups_known : (graph : ActGraph) (c : Certificate) (names : List (List ℕ)) → length names ≡ graph.count → IsAccepted graph c
    → All (All (λ router. router < length names)) c.groups
groups_known graph c names total accepted =
    let numbers = accepted.blocks.numbers in
    let reached = all_reached graph c.splits (first_blocks graph) accepted.blocks (first_reached graph) accepted.split in
    subst (λ (gs : List (List ℕ)). All (All (λ router. router < length names)) gs) (sym accepted.groups)
    (subst (λ (n : ℕ). All (All (λ router. router < n)) (groups_of numbers)) (reached.total ∙ sym total) (groups_in_range numbers))

-- ---- the text

head_text : line_text head_line ≡ codes "bonsai certificate 1\n"
head_text = refl

end_text : line_text end_line ≡ codes "end\n"
end_text = refl

pub text_written : (edges : List Edge) (names : List (List ℕ)) (c : Certificate) (none first second third all : List ℕ) → none ≡ []
    → first ≡ none ++ codes "bonsai certificate 1\n" → second ≡ first ++ lines_text (map (split_line edges names) c.splits)
    → third ≡ second ++ lines_text (map (named_group_line names) c.groups) → all ≡ third ++ codes "end\n" → all ≡ certificate_text edges names c
unfolding certificate_text
text_written edges names c none first second third all e0 e1 e2 e3 e4 =
    let splits = map (split_line edges names) c.splits in
    let groups = map (named_group_line names) c.groups in
    e4 ∙ ap (λ (t : List ℕ). t ++ codes "end\n") (e3 ∙ ap (λ (t : List ℕ). t ++ lines_text groups)
    (e2 ∙ ap (λ (t : List ℕ). t ++ lines_text splits) (e1 ∙ ap (λ (t : List ℕ). t ++ codes "bonsai certificate 1\n") e0)))
    ∙ ap (λ (t : List ℕ). ((t ++ lines_text splits) ++ lines_text groups) ++ codes "end\n") (sym head_text)
    ∙ ap (λ (t : List ℕ). ((line_text head_line ++ lines_text splits) ++ lines_text groups) ++ t) (sym end_text ∙ sym (append-nil (line_text end_line)))
    ∙ ap (λ (t : List ℕ). t ++ lines_text (end_line ∷ [])) (sym (flat_map-append line_text (head_line ∷ splits) groups))
    ∙ sym (flat_map-append line_text ((head_line ∷ splits) ++ groups) (end_line ∷ []))
