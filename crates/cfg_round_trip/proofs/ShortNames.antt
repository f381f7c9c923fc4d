-- The match lines of route maps that a text gives are printed as lines that are no longer.
use Rattle.std.proofs.Common.{◌≡◌, ℕ, zero, suc, ◌+◌, ◌-◌, ◌≤◌, Bool, true, false, ◌&&◌, List, [], ◌∷◌, ◌++◌, length, take, replicate, Option, Some, None, refl, sym, ap, ◌∙◌, arith, inl, inr, length-append}
use Rattle.std.specs.Prelude.{IfOk, codes, bytes_eq, nat_lt, nat_le, is_some, if◌then◌else◌}
use Rattle.std.specs.Bool.{OnTrue}
use Rattle.std.specs.Option.{option_map}
use Rattle.std.specs.List.{AllByRecursion, join_with_byte, list_all}
use Rattle.std.proofs.lemmas.Bool.{and_parts}
use Rattle.std.proofs.lemmas.List.{append-nil}
use Rattle.std.proofs.lemmas.Slice.Eq.{bytes_eq-Decides}
use Rattle.base_kit.proofs.Elements.{In}
use Rattle.cfg_ast.specs.declared.heads.HeadClass.{HeadClass}
use Rattle.cfg_ast.specs.declared.heads.HeadClass.TheVariants as class
use Rattle.cfg_ast.specs.declared.heads.PolicyForm.{PolicyForm}
use Rattle.cfg_ast.specs.declared.heads.PolicyForm.TheVariants as form
use Rattle.cfg_ast.specs.declared.items.PolicyItem.{PolicyItem}
use Rattle.cfg_ast.specs.declared.items.PolicyItem.TheVariants as item
use Rattle.cfg_ast.specs.declared.items.PolicyScope.{PolicyScope}
use Rattle.cfg_ast.specs.declared.items.PolicyScope.TheVariants as scope
use Rattle.cfg_ast.specs.text.TextLines.{TextLine}
use Rattle.cfg_ast.specs.text.Heads.{Row, begins, longer, longest, class_in, entry_heads, policy_heads_of}
use Rattle.cfg_ast.specs.text.Lines.{words_of}
use Rattle.cfg_ast.specs.text.PolicyForms.{has_mark, but_last, comms_match, policy_form, policy_item_by, policy_item_of, list_names_of, is_group, all_differ, is_permit, bounds_of, community_words, community_line, change_of, is_as_number}
use Rattle.cfg_ast.specs.text.FormSteps.{list_name_of, named_of}
use Rattle.cfg_ast.specs.text.Words.{is_list_name, number_word, number_between, prefix_of}
use Rattle.cfg_ast.specs.printing.Printed.{line_text, match_prefixes_line, match_comms_line}
use Rattle.given_laws.proofs.Given.{IsAny, given, mapped, after, fits, either, anything, any_result}
use Rattle.cfg_round_trip.specs.ShortMaps.{IsShortLine, IsShortEntry}
use Rattle.cfg_round_trip.proofs.ShortTexts.{joined}

-- ---- short match lines

pub line_length : (l : TextLine) → length (line_text l) ≡ l.indent + joined l.words + 1
line_length l =
    omega (
      arith,
      length-append (replicate l.indent 32 ++ join_with_byte 32 l.words) (10 ∷ []),
      length-append (replicate l.indent 32) (join_with_byte 32 l.words),
      length_replicate l.indent,
    )
  where
    length_replicate : (n : ℕ) → length {A = ℕ} (replicate n 32) ≡ n
    length_replicate zero = refl
    length_replicate (suc n) = ap (λ k. suc k) (length_replicate n)

-- what a line says, where it must be short if it stands in an entry
abbrev pub IsShortItem : Bool → PolicyItem → Type 0
IsShortItem inside (item.MatchPrefixes l) = OnTrue inside (IsShortLine (match_prefixes_line l))
IsShortItem inside (item.MatchComms l exact) = OnTrue inside (IsShortLine (match_comms_line exact l))
IsShortItem inside (item.MapHead name e) = IsShortEntry e
IsShortItem inside _ = Unit {0}

-- ---- the head of a line

abbrev IsRowFor : HeadClass → List (List ℕ) → Row → Type 0
IsRowFor c head r = r.class ≡ c → r.words ≡ head

-- the longest head is a row that begins the line
record IsFound (rows : List Row) (words : List (List ℕ)) (r : Row) : Type 0 where
  begins : begins r.words words ≡ true
  inside : In rows r

all_in : {X : Type 0} (P : X → Type 0) (xs : List X) (x : X) → AllByRecursion P xs → In xs x → P x
all_in P [] x all here = absurd here
all_in P (y ∷ ys) x all (inl same) = rw (← same) all.0
all_in P (y ∷ ys) x all (inr rest) = all_in P ys x all.1 rest

of_row : (row r : Row) (rows : List Row) (words : List (List ℕ)) (b : Bool) → begins row.words words ≡ b →
    ◌≡◌ {A = Option Row} (if b then Some row else None) (Some r) → IsFound (row ∷ rows) words r
of_row row r rows words true e is = let same : row ≡ r = cc in record { begins = ap (λ (x : Row). begins x.words words) (sym same) ∙ e; inside = inl same }
of_row row r rows words false e is = absurd cc

of_rest : (row r : Row) (rows : List Row) (words : List (List ℕ)) → IsFound rows words r → IsFound (row ∷ rows) words r
of_rest row r rows words found = record { begins = found.begins; inside = inr found.inside }

longer_case : (row r : Row) (rows : List Row) (words : List (List ℕ)) (a b : Option Row) → (a ≡ Some r → IsFound (row ∷ rows) words r) →
    (b ≡ Some r → IsFound rows words r) → longer a b ≡ Some r → IsFound (row ∷ rows) words r
longer_case row r rows words None b first rest e = of_rest row r rows words (rest e)
longer_case row r rows words (Some x) None first rest e = first e
longer_case row r rows words (Some x) (Some y) first rest e = by (nat_lt (length x.words) (length y.words)) e
  where
    by : (c : Bool) → ◌≡◌ {A = Option Row} (if c then Some y else Some x) (Some r) → IsFound (row ∷ rows) words r
    by true is = of_rest row r rows words (rest is)
    by false is = first is

found : (rows : List Row) (words : List (List ℕ)) (r : Row) → longest rows words ≡ Some r → IsFound rows words r
found [] words r e = absurd cc
found (row ∷ rows) words r e = longer_case row r rows words (if begins row.words words then Some row else None) (longest rows words)
    (λ is. of_row row r rows words (begins row.words words) refl is) (found rows words r) e

-- a line of that class begins with the head of the class's only row
begins_head : (rows : List Row) (words head : List (List ℕ)) (c : HeadClass) (o : Option Row) → longest rows words ≡ o → AllByRecursion (IsRowFor c head) rows →
    option_map (λ (r : Row). r.class) o ≡ Some c → begins head words ≡ true
begins_head rows words head c None e all is = absurd cc
begins_head rows words head c (Some r) e all is =
    let there = found rows words r e in
    let same : r.words ≡ head = all_in (IsRowFor c head) rows r all there.inside (cc) in
    ap (λ (h : List (List ℕ)). begins h words) (sym same) ∙ there.begins

abbrev prefixes_words : List (List ℕ)
prefixes_words = codes "match" ∷ codes "ip" ∷ codes "address" ∷ codes "prefix-list" ∷ []

abbrev comms_words : List (List ℕ)
comms_words = codes "match" ∷ codes "community" ∷ []

prefixes_rows : AllByRecursion (IsRowFor (class.Policy form.MatchPrefixes) prefixes_words) entry_heads
unfolding entry_heads words_of
prefixes_rows = (
  λ e. refl,
  (
    λ e. absurd cc,
    (λ e. absurd cc, (λ e. absurd cc, (λ e. absurd cc, (λ e. absurd cc, (λ e. absurd cc, (λ e. absurd cc, (λ e. absurd cc, (λ e. absurd cc, tt)))))))),
  ),
)

comms_rows : AllByRecursion (IsRowFor (class.Policy form.MatchComms) comms_words) entry_heads
unfolding entry_heads words_of
comms_rows = (
  λ e. absurd cc,
  (
    λ e. refl,
    (λ e. absurd cc, (λ e. absurd cc, (λ e. absurd cc, (λ e. absurd cc, (λ e. absurd cc, (λ e. absurd cc, (λ e. absurd cc, (λ e. absurd cc, tt)))))))),
  ),
)

-- ---- the forms

-- the names are those words
abbrev AreThe : List (List ℕ) → List (List ℕ) → Type 0
AreThe words names = names ≡ words

names_are : (words : List (List ℕ)) → IfOk (list_names_of words) (AreThe words)
unfolding list_names_of
names_are words = fits (AreThe words) (is_group words && list_all is_list_name words && all_differ bytes_eq words) _ (λ e. refl)

same_word : (head word : List ℕ) → bytes_eq head word ≡ true → head ≡ word
same_word head word e = (bytes_eq-Decides head word).0 e

two_words : (a b x y : List ℕ) (rest : List (List ℕ)) → x ≡ a → y ≡ b → x ∷ y ∷ rest ≡ a ∷ b ∷ rest
two_words a b x y rest e f = rw (e, f) refl

prefixes_short : (line : ℕ) (words : List (List ℕ)) → begins prefixes_words words ≡ true → 1 + joined words ≤ 1024 →
    IfOk (policy_form form.MatchPrefixes line words) (IsShortItem true)
unfolding policy_form match_prefixes_line
prefixes_short line (a ∷ b ∷ c ∷ d ∷ words) head short =
    let one = and_parts (bytes_eq (codes "match") a) _ head in
    let two = and_parts (bytes_eq (codes "ip") b) _ one.1 in
    let three = and_parts (bytes_eq (codes "address") c) _ two.1 in
    let four = and_parts (bytes_eq (codes "prefix-list") d) true three.1 in
    let same : joined (codes "match" ∷ codes "ip" ∷ codes "address" ∷ codes "prefix-list" ∷ words) ≡ joined (a ∷ b ∷ c ∷ d ∷ words) =
    ap joined (two_words a b (codes "match") (codes "ip") (codes "address" ∷ codes "prefix-list" ∷ words) (same_word (codes "match") a one.0)
    (same_word (codes "ip") b two.0)
    ∙ ap (λ (ws : List (List ℕ)). a ∷ b ∷ ws) (two_words c d (codes "address") (codes "prefix-list") words (same_word (codes "address") c three.0)
    (same_word (codes "prefix-list") d four.0))) in
    after (AreThe words) (IsShortItem true) _ _ (names_are words) (λ names are.
    rw are (omega (
      arith,
      line_length (record { number = 0; indent = 1; words = codes "match" ∷ codes "ip" ∷ codes "address" ∷ codes "prefix-list" ∷ words }),
      same,
    )))
prefixes_short line _ head short = tt

marked_is : (mark : List ℕ) (words : List (List ℕ)) → has_mark mark words ≡ true → but_last words ++ mark ∷ [] ≡ words
marked_is mark [] e = absurd cc
marked_is mark (word ∷ []) e = ap (λ (w : List ℕ). w ∷ []) (sym ((bytes_eq-Decides word mark).0 e))
marked_is mark (word ∷ next ∷ words) e =
    let n : suc (suc (length words)) - 1 ≡ suc (suc (length words) - 1) = omega arith in
    ap (λ k. take k (word ∷ next ∷ words) ++ mark ∷ []) n ∙ ap (λ (ws : List (List ℕ)). word ∷ ws) (marked_is mark (next ∷ words) e)

comms_short : (line : ℕ) (words : List (List ℕ)) → begins comms_words words ≡ true → 1 + joined words ≤ 1024 →
    IfOk (policy_form form.MatchComms line words) (IsShortItem true)
unfolding policy_form comms_match match_comms_line
comms_short line (a ∷ b ∷ words) head short =
    let one = and_parts (bytes_eq (codes "match") a) _ head in
    let two = and_parts (bytes_eq (codes "community") b) true one.1 in
    let same : joined (codes "match" ∷ codes "community" ∷ words) ≡ joined (a ∷ b ∷ words) =
    ap joined (two_words a b (codes "match") (codes "community") words (same_word (codes "match") a one.0) (same_word (codes "community") b two.0)) in
    either (IsShortItem true) (has_mark (codes "exact-match") words) _ _
    (λ marked. after (AreThe (but_last words)) (IsShortItem true) _ _ (names_are (but_last words)) (λ names are.
    rw (are, marked_is (codes "exact-match") words marked) (omega
    (arith, line_length (record { number = 0; indent = 1; words = codes "match" ∷ codes "community" ∷ words }), same))))
    (λ other. after (AreThe words) (IsShortItem true) _ _ (names_are words) (λ names are.
    rw (are, append-nil words) (omega (arith, line_length (record { number = 0; indent = 1; words = codes "match" ∷ codes "community" ∷ words }), same))))
comms_short line _ head short = tt

-- ---- the other forms

community_line_quiet : (inside : Bool) (line : ℕ) (name act : List ℕ) (communities : List (List ℕ)) →
    IfOk (community_line line name act communities) (IsShortItem inside)
unfolding community_line
community_line_quiet inside line name act communities =
    given IsAny (IsShortItem inside) _ _ (anything (is_permit act)) (λ permit any.
    after IsAny (IsShortItem inside) _ _ (any_result (list_name_of name)) (λ list any.
    after IsAny (IsShortItem inside) _ _ (any_result (community_words communities)) (λ comms any. tt)))

-- outside an entry nothing is asked of a match line
prefixes_outside : (line : ℕ) (words : List (List ℕ)) → IfOk (policy_form form.MatchPrefixes line words) (IsShortItem false)
unfolding policy_form
prefixes_outside line (_ ∷ _ ∷ _ ∷ _ ∷ words) = after IsAny (IsShortItem false) _ _ (any_result (list_names_of words)) (λ names any. tt)
prefixes_outside line _ = tt

comms_outside : (line : ℕ) (words : List (List ℕ)) → IfOk (policy_form form.MatchComms line words) (IsShortItem false)
unfolding policy_form comms_match
comms_outside line (_ ∷ _ ∷ words) =
    either (IsShortItem false) (has_mark (codes "exact-match") words) _ _
    (λ e. after IsAny (IsShortItem false) _ _ (any_result (list_names_of (but_last words))) (λ names any. tt))
    (λ e. after IsAny (IsShortItem false) _ _ (any_result (list_names_of words)) (λ names any. tt))
comms_outside line _ = tt

-- ---- a line by its head

quiet_form : (inside : Bool) (f : PolicyForm) (line : ℕ) (words : List (List ℕ)) →
    (f ≡ form.MatchPrefixes → IfOk (policy_form form.MatchPrefixes line words) (IsShortItem inside)) →
    (f ≡ form.MatchComms → IfOk (policy_form form.MatchComms line words) (IsShortItem inside)) → IfOk (policy_form f line words) (IsShortItem inside)
unfolding policy_form
quiet_form inside form.PrefixEntry line (_ ∷ _ ∷ name ∷ word ∷ number ∷ act ∷ prefix ∷ options) p c =
    fits (IsShortItem inside) (bytes_eq word (codes "seq")) _ (λ e.
    given IsAny (IsShortItem inside) _ _ (anything (number_between 1 4294967295 number)) (λ seq any.
    given IsAny (IsShortItem inside) _ _ (anything (is_permit act)) (λ permit any.
    given IsAny (IsShortItem inside) _ _ (anything (prefix_of prefix)) (λ p any.
    after IsAny (IsShortItem inside) _ _ (any_result (bounds_of p.len options)) (λ bounds any.
    after IsAny (IsShortItem inside) _ _ (any_result (list_name_of name)) (λ list any. tt))))))
quiet_form inside form.CommunityLine line (_ ∷ _ ∷ word ∷ next ∷ third ∷ words) p c =
    either (IsShortItem inside) (bytes_eq word (codes "standard")) _ _ (λ e. community_line_quiet inside line next third words) (λ e.
    fits (IsShortItem inside) (is_some (number_between 1 99 word)) _ (λ f. community_line_quiet inside line word next (third ∷ words)))
quiet_form inside form.MapHead line (_ ∷ name ∷ act ∷ number ∷ []) p c =
    given IsAny (IsShortItem inside) _ _ (anything (is_permit act)) (λ permit any.
    given IsAny (IsShortItem inside) _ _ (anything (number_between 0 65535 number)) (λ seq any.
    after IsAny (IsShortItem inside) _ _ (any_result (list_name_of name)) (λ map any. (tt, tt))))
quiet_form inside form.MatchPrefixes line words p c = p refl
quiet_form inside form.MatchComms line words p c = c refl
quiet_form inside form.Lp line (_ ∷ _ ∷ number ∷ []) p c = mapped IsAny (IsShortItem inside) _ _ (anything (number_word number)) (λ n any. tt)
quiet_form inside form.Comms line (_ ∷ _ ∷ words) p c = after IsAny (IsShortItem inside) _ _ (any_result (change_of words)) (λ change any. tt)
quiet_form inside form.Delete line (_ ∷ _ ∷ name ∷ word ∷ []) p c = fits (IsShortItem inside) (bytes_eq word (codes "delete")) _
    (λ e. after IsAny (IsShortItem inside) _ _ (any_result (named_of line name)) (λ list any. tt))
quiet_form inside form.Prepend line (_ ∷ _ ∷ _ ∷ words) p c =
    fits (IsShortItem inside) (nat_le 1 (length words) && nat_le (length words) 10 && list_all is_as_number words) _ (λ e. tt)
quiet_form inside _ line _ p c = tt

outside_class : (o : Option HeadClass) (line : ℕ) (words : List (List ℕ)) → IfOk (policy_item_by o line words) (IsShortItem false)
unfolding policy_item_by
outside_class None line words = tt
outside_class (Some class.Refused) line words = tt
outside_class (Some class.Ignored) line words = tt
outside_class (Some (class.Router f)) line words = tt
outside_class (Some (class.Policy f)) line words = quiet_form false f line words (λ e. prefixes_outside line words) (λ e. comms_outside line words)

pub outside_item : (s : PolicyScope) (line : ℕ) (words : List (List ℕ)) → IfOk (policy_item_of s line words) (IsShortItem false)
outside_item s line words = outside_class (class_in (policy_heads_of s) words) line words

inside_class : (o : Option HeadClass) (line : ℕ) (words : List (List ℕ)) → class_in (policy_heads_of scope.Entry) words ≡ o → 1 + joined words ≤ 1024 →
    IfOk (policy_item_by o line words) (IsShortItem true)
unfolding policy_item_by policy_heads_of words_of
inside_class None line words e short = tt
inside_class (Some class.Refused) line words e short = tt
inside_class (Some class.Ignored) line words e short = tt
inside_class (Some (class.Router f)) line words e short = tt
inside_class (Some (class.Policy f)) line words e short = quiet_form true f line words
    (λ same. prefixes_short line words (begins_head entry_heads words prefixes_words (class.Policy form.MatchPrefixes) (longest entry_heads words) refl
    prefixes_rows (e ∙ ap (λ (g : PolicyForm). Some (class.Policy g)) same)) short)
    (λ same. comms_short line words (begins_head entry_heads words comms_words (class.Policy form.MatchComms) (longest entry_heads words) refl comms_rows
    (e ∙ ap (λ (g : PolicyForm). Some (class.Policy g)) same)) short)

pub inside_item : (line : ℕ) (words : List (List ℕ)) → 1 + joined words ≤ 1024 → IfOk (policy_item_of scope.Entry line words) (IsShortItem true)
inside_item line words short = inside_class (class_in (policy_heads_of scope.Entry) words) line words refl short
