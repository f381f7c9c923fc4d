-- The labels line by line are the labels of the text.
use Rattle.std.proofs.Common.{◌≡◌, ℕ, zero, suc, ◌+◌, ◌<◌, Bool, true, false, cond, not, ◌||◌, ◌⊎◌, List, [], ◌∷◌, ◌++◌, length, map, filter, replicate, refl, sym, ap, ◌∙◌, arith, Option, Some, None, Result, Ok, Err, option_map, append_assoc, append-nil, inl, inr}
use Rattle.std.specs.Prelude.{bytes_eq, is_some, slice_index_or}
use Rattle.std.specs.List.{list_any, list_all, cons_option, position}
use Rattle.std.proofs.Math.ListN.{set, length-set}
use Rattle.std.proofs.lemmas.Slice.Eq.{bytes_eq-Decides}
use Rattle.base_kit.specs.declared.protocol.Protocol.{Protocol}
use Rattle.cfg_ast.specs.text.TextLines.{TextLine, text_line}
use Rattle.cfg_ast.specs.text.Members.{all_lines_of}
use Rattle.srp_core.specs.declared.route.Route.{Route}
use Rattle.solution_text.specs.declared.refusal.SolKind.{SolKind}
use Rattle.solution_text.specs.declared.refusal.SolKind.TheVariants.{BadForm, UnknownRouter, Repeated, WrongProtocol}
use Rattle.solution_text.specs.declared.refusal.SolRefusal.{SolRefusal}
use Rattle.solution_text.specs.declared.refusal.SolRefusal.TheVariants.{At}
use Rattle.solution_text.specs.Forms.{NamedLabel, named_label_of}
use Rattle.solution_text.specs.Solutions.{has_words, are_some, named_labels, is_foreign, kind_of, named_too, first_at_line, first_fault, said_of, labels_by, labels_unless, solution_lines, labels_of_text}
use Rattle.base_kit.specs.Names.{AreApart}
use Rattle.base_kit.specs.Options.{all_given}
use Rattle.solution_text.specs.Steps.{LabelsSoFar, nothing_said, has_line, with_label_at, is_said, all_labels, with_label, with_place, with_named_label, with_words, continue_with, labels_at_end, answer_from}
use Rattle.numbered_names.proofs.Positions.{bytes_eq-sym, moved, position_first}

abbrev Labels : Type 0
Labels = Result (List (Option Route)) SolRefusal

pub answer_next : (protocol : Protocol) (place_of : List ℕ → Option ℕ) (end : ℕ) (l : TextLine) (ls : List TextLine) (s next : LabelsSoFar) →
    with_words protocol place_of l.number s l.words ≡ Ok next → answer_from protocol place_of end (l ∷ ls) s ≡ answer_from protocol place_of end ls next
unfolding answer_from
answer_next protocol place_of end l ls s next e = ap (λ (r : Result LabelsSoFar SolRefusal). continue_with r (answer_from protocol place_of end ls)) e

pub answer_fault : (protocol : Protocol) (place_of : List ℕ → Option ℕ) (end : ℕ) (l : TextLine) (ls : List TextLine) (s : LabelsSoFar) (e : SolRefusal) →
    with_words protocol place_of l.number s l.words ≡ Err e → answer_from protocol place_of end (l ∷ ls) s ≡ Err e
unfolding answer_from
answer_fault protocol place_of end l ls s e is = ap (λ (r : Result LabelsSoFar SolRefusal). continue_with r (answer_from protocol place_of end ls)) is

pub answer_done : (protocol : Protocol) (place_of : List ℕ → Option ℕ) (end : ℕ) (s : LabelsSoFar)
    → answer_from protocol place_of end [] s ≡ labels_at_end end s
unfolding answer_from
answer_done protocol place_of end s = refl

-- ---- what is said of each name

abbrev given_at : Bool → Option Route → Option (Option Route)
given_at true label = Some label
given_at false label = None

abbrev given : List Bool → List (Option Route) → List (Option (Option Route))
given [] labels = []
given (b ∷ seen) [] = []
given (b ∷ seen) (label ∷ labels) = given_at b label ∷ given seen labels

-- the standing is what these named labels say of the names
record IsOf (says : List NamedLabel) (names : List (List ℕ)) (s : LabelsSoFar) : Type 0 where
  total : length s.seen ≡ length names
  labels_total : length s.labels ≡ length names
  said : given s.seen s.labels ≡ map (said_of says) names

none_given : (n : ℕ) → given (replicate n false) (replicate n None) ≡ replicate n None
none_given zero = refl
none_given (suc n) = ap (λ (xs : List (Option (Option Route))). None ∷ xs) (none_given n)

nothing_of : (names : List (List ℕ)) → replicate (length names) None ≡ map (said_of []) names
nothing_of [] = refl
nothing_of (name ∷ names) = ap (λ (xs : List (Option (Option Route))). None ∷ xs) (nothing_of names)

replicate_length : {X : Type 0} (n : ℕ) (x : X) → length (replicate n x) ≡ n
replicate_length zero x = refl
replicate_length (suc n) x = omega (arith, replicate_length n x)

at_first : (names : List (List ℕ)) → IsOf [] names (nothing_said (length names))
at_first names = record {
  total = replicate_length (length names) false;
  labels_total = replicate_length (length names) None;
  said = none_given (length names)
      ∙ nothing_of names;
}

-- ---- the end

all_cons : (label : Option Route) (labels : List (Option Route)) (all : Bool) →
    option_map (λ rest. label ∷ rest) (cond all (Some labels) None) ≡ cond all (Some (label ∷ labels)) None
all_cons label labels true = refl
all_cons label labels false = refl

all_of_given : (seen : List Bool) (labels : List (Option Route)) → length seen ≡ length labels →
    all_given (given seen labels) ≡ cond (list_all is_said seen) (Some labels) None
all_of_given [] [] e = refl
all_of_given [] (label ∷ labels) e = absurd (omega arith)
all_of_given (b ∷ seen) [] e = absurd (omega arith)
all_of_given (true ∷ seen) (label ∷ labels) e = ap (option_map (λ rest. label ∷ rest)) (all_of_given seen labels (omega arith))
    ∙ all_cons label labels (list_all is_said seen)
all_of_given (false ∷ seen) (label ∷ labels) e = refl

labels_of : (says : List NamedLabel) (names : List (List ℕ)) (s : LabelsSoFar) → IsOf says names s → all_labels s ≡ labels_by says names
unfolding labels_by
labels_of says names s is = sym (all_of_given s.seen s.labels (omega (arith, is.total, is.labels_total))) ∙ ap all_given is.said

-- ---- one saying more

abbrev or_new : Option (Option Route) → Bool → Option Route → Option (Option Route)
or_new (Some label) b new = Some label
or_new None b new = cond b (Some new) None

said_by : (says : List NamedLabel) (s t : NamedLabel) (name : List ℕ) (b : Bool) →
    said_of (says ++ s ∷ []) name ≡ or_new (said_of says name) (bytes_eq s.name name) s.label → bytes_eq t.name name ≡ b →
    said_of (t ∷ says ++ s ∷ []) name ≡ or_new (said_of (t ∷ says) name) (bytes_eq s.name name) s.label
said_by says s t name true rest e = rw e refl
said_by says s t name false rest e = rw e rest

said_one : (s : NamedLabel) (name : List ℕ) (b : Bool) → bytes_eq s.name name ≡ b → said_of (s ∷ []) name ≡ cond (bytes_eq s.name name) (Some s.label) None
said_one s name true e = rw e refl
said_one s name false e = rw e refl

said_push : (says : List NamedLabel) (s : NamedLabel) (name : List ℕ) →
    said_of (says ++ s ∷ []) name ≡ or_new (said_of says name) (bytes_eq s.name name) s.label
said_push [] s name = said_one s name (bytes_eq s.name name) refl
said_push (t ∷ says) s name = said_by says s t name (bytes_eq t.name name) (said_push says s name) refl

same_name : (name wanted : List ℕ) → bytes_eq wanted name ≡ true → name ≡ wanted
same_name name wanted e = sym ((bytes_eq-Decides wanted name).0 e)

old_kept : (found : Option (Option Route)) (new : Option Route) → or_new found false new ≡ found
old_kept (Some label) new = refl
old_kept None new = refl

-- names that are not that of the saying keep what is said of them
others_kept : (says : List NamedLabel) (s : NamedLabel) (names : List (List ℕ)) → list_any (bytes_eq s.name) names ≡ false →
    map (said_of says) names ≡ map (said_of (says ++ s ∷ [])) names
others_kept says s [] none = refl
others_kept says s (name ∷ names) none =
    let parts = neither (bytes_eq s.name name) (list_any (bytes_eq s.name) names) none in
    let here : said_of (says ++ s ∷ []) name ≡ said_of says name = said_push says s name ∙ ap (λ (b : Bool). or_new (said_of says name) b s.label) parts.0
    ∙ old_kept (said_of says name) s.label in
    ap (λ (x : Option (Option Route)). x ∷ map (said_of says) names) (sym here)
    ∙ ap (λ (xs : List (Option (Option Route))). said_of (says ++ s ∷ []) name ∷ xs) (others_kept says s names parts.1)
  where
    neither : (a b : Bool) → (a || b) ≡ false → (a ≡ false) × (b ≡ false)
    neither true b e = absurd cc
    neither false b e = (refl, e)

-- ---- the place of a name

record IsLater (test : List ℕ → Bool) (names : List (List ℕ)) (k : ℕ) : Type 0 where
  place : ℕ
  found : position test names ≡ Some place
  next : k ≡ suc place

moved_nothing : (p : Option ℕ) → moved 0 p ≡ p
moved_nothing None = refl
moved_nothing (Some k) = ap Some (let e : 0 + k ≡ k = omega arith in e)

later_by : (test : List ℕ → Bool) (names : List (List ℕ)) (k : ℕ) (p : Option ℕ) → position test names ≡ p → moved 1 p ≡ Some k → IsLater test names k
later_by test names k None is e = absurd cc
later_by test names k (Some j) is e = let same : 1 + j ≡ k = cc in record { place = j; found = is; next = omega arith }

place_cases : (test : List ℕ → Bool) (name : List ℕ) (names : List (List ℕ)) (k : ℕ) (b : Bool) → test name ≡ b → position test (name ∷ names) ≡ Some k →
    ((b ≡ true) × (k ≡ 0)) ⊎ ((b ≡ false) × IsLater test names k)
place_cases test name names k b is e = by b is (sym (moved_nothing (position test (name ∷ names)) ∙ refl) ∙ position_first test name names 0) e
  where
    by : (v : Bool) → test name ≡ v → position test (name ∷ names) ≡ cond (test name) (Some 0) (moved 1 (position test names)) →
        position test (name ∷ names) ≡ Some k → ((v ≡ true) × (k ≡ 0)) ⊎ ((v ≡ false) × IsLater test names k)
    by true t first found = inl (refl, let z : Some k ≡ Some 0 = sym found ∙ first ∙ ap (λ (v : Bool). cond v (Some 0) (moved 1 (position test names))) t in cc)
    by false t first found = inr (
      refl,
      later_by test names k (position test names) refl
          (sym (ap (λ (v : Bool). cond v (Some 0) (moved 1 (position test names))) t) ∙ sym first ∙ found),
    )

-- ---- the saying at its place

said_here : (says : List NamedLabel) (s : NamedLabel) (name : List ℕ) (names : List (List ℕ)) → bytes_eq s.name name ≡ true →
    list_any (bytes_eq name) names ≡ false → said_of says s.name ≡ None →
    Some s.label ∷ map (said_of says) names ≡ map (said_of (says ++ s ∷ [])) (name ∷ names)
said_here says s name names e none new =
    let same : name ≡ s.name = same_name name s.name e in
    let old : said_of says name ≡ None = ap (said_of says) same ∙ new in
    let here : said_of (says ++ s ∷ []) name ≡ Some s.label = said_push says s name
    ∙ ap (λ (o : Option (Option Route)). or_new o (bytes_eq s.name name) s.label) old ∙ ap (λ (b : Bool). cond b (Some s.label) None) e in
    let rest = others_kept says s names (ap (λ (n : List ℕ). list_any (bytes_eq n) names) (sym same) ∙ none) in
    ap (λ (x : Option (Option Route)). x ∷ map (said_of says) names) (sym here)
    ∙ ap (λ (xs : List (Option (Option Route))). said_of (says ++ s ∷ []) name ∷ xs) rest

said_there : (says : List NamedLabel) (s : NamedLabel) (name : List ℕ) (names : List (List ℕ)) (place : ℕ) → bytes_eq s.name name ≡ false →
    set (map (said_of says) names) place (Some s.label) ≡ map (said_of (says ++ s ∷ [])) names →
    said_of says name ∷ set (map (said_of says) names) place (Some s.label) ≡ map (said_of (says ++ s ∷ [])) (name ∷ names)
said_there says s name names place e rest =
    let here : said_of (says ++ s ∷ []) name ≡ said_of says name = said_push says s name ∙ ap (λ (b : Bool). or_new (said_of says name) b s.label) e
    ∙ old_kept (said_of says name) s.label in
    ap (λ (x : Option (Option Route)). x ∷ set (map (said_of says) names) place (Some s.label)) (sym here)
    ∙ ap (λ (xs : List (Option (Option Route))). said_of (says ++ s ∷ []) name ∷ xs) rest

said_after : (says : List NamedLabel) (s : NamedLabel) (names : List (List ℕ)) (k : ℕ) → AreApart names → position (bytes_eq s.name) names ≡ Some k →
    said_of says s.name ≡ None → set (map (said_of says) names) k (Some s.label) ≡ map (said_of (says ++ s ∷ [])) names
said_after says s [] k apart found new = absurd cc
said_after says s (name ∷ names) k apart found new = elim (place_cases (bytes_eq s.name) name names k (bytes_eq s.name name) refl found) [
  | inl here ↦ ap (λ (n : ℕ). set (map (said_of says) (name ∷ names)) n (Some s.label)) here.1 ∙ said_here says s name names here.0 apart.0 new
  | inr later ↦
      let l = later.1 in
      ap (λ (n : ℕ). set (map (said_of says) (name ∷ names)) n (Some s.label)) l.next
      ∙ said_there says s name names l.place later.0 (said_after says s names l.place apart.1 l.found new)
]

-- the name stands at its place
pub named_at : (says : List NamedLabel) (wanted : List ℕ) (names : List (List ℕ)) (k : ℕ) → position (bytes_eq wanted) names ≡ Some k →
    (k < length names) × (slice_index_or (map (said_of says) names) k None ≡ said_of says wanted)
named_at says wanted [] k found = absurd cc
named_at says wanted (name ∷ names) k found = elim (place_cases (bytes_eq wanted) name names k (bytes_eq wanted name) refl found) [
  | inl here ↦ (
    omega (arith, here.1),
    ap (λ (n : ℕ). slice_index_or (map (said_of says) (name ∷ names)) n None) here.1
        ∙ ap (said_of says) (same_name name wanted here.0),
  )
  | inr later ↦
      let l = later.1 in
      let rest = named_at says wanted names l.place l.found in
      let next = l.next in
      (omega (arith, rest.0, next), ap (λ (n : ℕ). slice_index_or (map (said_of says) (name ∷ names)) n None) next ∙ rest.1)
]

seen_at : (seen : List Bool) (labels : List (Option Route)) (k : ℕ) → length seen ≡ length labels →
    is_some (slice_index_or (given seen labels) k None) ≡ slice_index_or seen k false
seen_at [] labels k e = refl
seen_at (b ∷ seen) [] k e = absurd (omega arith)
seen_at (true ∷ seen) (label ∷ labels) zero e = refl
seen_at (false ∷ seen) (label ∷ labels) zero e = refl
seen_at (b ∷ seen) (label ∷ labels) (suc k) e = seen_at seen labels k (omega arith)

given_set : (seen : List Bool) (labels : List (Option Route)) (k : ℕ) (label : Option Route) → length seen ≡ length labels →
    given (set seen k true) (set labels k label) ≡ set (given seen labels) k (Some label)
given_set [] [] k label e = refl
given_set [] (l ∷ labels) k label e = absurd (omega arith)
given_set (b ∷ seen) [] k label e = absurd (omega arith)
given_set (b ∷ seen) (l ∷ labels) zero label e = refl
given_set (b ∷ seen) (l ∷ labels) (suc k) label e = ap (λ (xs : List (Option (Option Route))). given_at b l ∷ xs) (given_set seen labels k label (omega arith))

-- what the standing says of a name
line_of_name : (says : List NamedLabel) (names : List (List ℕ)) (s : LabelsSoFar) (wanted : List ℕ) (k : ℕ) → IsOf says names s →
    position (bytes_eq wanted) names ≡ Some k → has_line s k ≡ is_some (said_of says wanted)
line_of_name says names s wanted k is found =
    sym (seen_at s.seen s.labels k (omega (arith, is.total, is.labels_total)))
    ∙ ap (λ (xs : List (Option (Option Route))). is_some (slice_index_or xs k None)) is.said ∙ ap is_some (named_at says wanted names k found).1

is_of_more : (says : List NamedLabel) (names : List (List ℕ)) (st : LabelsSoFar) (s : NamedLabel) (k : ℕ) → AreApart names → IsOf says names st →
    position (bytes_eq s.name) names ≡ Some k → said_of says s.name ≡ None → IsOf (says ++ s ∷ []) names (with_label_at st k s.label)
is_of_more says names st s k apart is found new = record {
  total = length-set st.seen k true ∙ is.total;
  labels_total = length-set st.labels k s.label ∙ is.labels_total;
  said = given_set st.seen st.labels k s.label (omega (arith, is.total, is.labels_total))
      ∙ ap (λ (xs : List (Option (Option Route))). set xs k (Some s.label)) is.said ∙ said_after says s names k apart found new;
}

-- ---- the names of earlier lines

abbrev AreEarlier : List NamedLabel → List (List ℕ) → Type 0
AreEarlier says earlier = (wanted : List ℕ) → list_any (bytes_eq wanted) earlier ≡ is_some (said_of says wanted)

more_by : (found : Option (Option Route)) (b : Bool) (new : Option Route) → (b || is_some found) ≡ is_some (or_new found b new)
more_by None true new = refl
more_by None false new = refl
more_by (Some label) true new = refl
more_by (Some label) false new = refl

earlier_more : (says : List NamedLabel) (earlier : List (List ℕ)) (s : NamedLabel) → AreEarlier says earlier → AreEarlier (says ++ s ∷ []) (s.name ∷ earlier)
earlier_more says earlier s are wanted =
    ap (λ (b : Bool). bytes_eq wanted s.name || b) (are wanted) ∙ ap (λ (b : Bool). b || is_some (said_of says wanted)) (bytes_eq-sym wanted s.name)
    ∙ more_by (said_of says wanted) (bytes_eq s.name wanted) s.label ∙ ap is_some (sym (said_push says s wanted))

-- ---- whether a name is given

some_moved : (n : ℕ) (p : Option ℕ) → is_some (moved n p) ≡ is_some p
some_moved n None = refl
some_moved n (Some k) = refl

some_cond : (b : Bool) (p : Option ℕ) → is_some (cond b (Some 0) p) ≡ b || is_some p
some_cond true p = refl
some_cond false p = refl

any_place : (test : List ℕ → Bool) (names : List (List ℕ)) → list_any test names ≡ is_some (position test names)
any_place test [] = refl
any_place test (name ∷ names) =
    ap (λ (b : Bool). test name || b) (any_place test names ∙ sym (some_moved 1 (position test names)))
    ∙ sym (some_cond (test name) (moved 1 (position test names)))
    ∙ ap is_some (sym (sym (moved_nothing (position test (name ∷ names))) ∙ position_first test name names 0))

-- ---- line by line

module _ (protocol : Protocol) (names : List (List ℕ)) (apart : AreApart names) (place_of : List ℕ → Option ℕ)
    (is_place : (wanted : List ℕ) → place_of wanted ≡ position (bytes_eq wanted) names) (end : ℕ) where
  -- what the lines say from here on, by the lines before
  abbrev judged_from : List NamedLabel → List (List ℕ) → List TextLine → Labels
  judged_from says earlier lines = labels_unless (first_fault protocol names earlier lines) end (labels_by (says ++ named_labels lines) names)

  abbrev Agrees : List TextLine → Type 0
  Agrees ls = (says : List NamedLabel) (earlier : List (List ℕ)) (st : LabelsSoFar) → IsOf says names st → AreEarlier says earlier →
      answer_from protocol place_of end ls st ≡ judged_from says earlier (filter has_words ls)

  -- where the line is at fault, so is the text
  fault_first : (says : List NamedLabel) (earlier : List (List ℕ)) (l : TextLine) (ls : List TextLine) (kind : SolKind) →
      kind_of protocol names earlier (named_label_of l.words) ≡ Some kind → judged_from says earlier (l ∷ ls) ≡ Err (At l.number kind)
  unfolding first_fault
  fault_first says earlier l ls kind e = ap
      (λ (k : Option SolKind). labels_unless (first_at_line l.number k (first_fault protocol names (named_too (named_label_of l.words) earlier) ls)) end
      (labels_by (says ++ named_labels (l ∷ ls)) names)) e

  -- where it is not, the other lines decide
  no_fault : (says : List NamedLabel) (earlier : List (List ℕ)) (l : TextLine) (ls : List TextLine) (s : NamedLabel) → named_label_of l.words ≡ Some s →
      kind_of protocol names earlier (Some s) ≡ None → judged_from says earlier (l ∷ ls) ≡ judged_from (says ++ s ∷ []) (s.name ∷ earlier) ls
  unfolding first_fault
  no_fault says earlier l ls s e none =
      ap (λ (o : Option NamedLabel). labels_unless
      (first_at_line l.number (kind_of protocol names earlier o) (first_fault protocol names (named_too o earlier) ls)) end
      (labels_by (says ++ cons_option o (named_labels ls)) names)) e
      ∙ ap (λ (k : Option SolKind). labels_unless (first_at_line l.number k (first_fault protocol names (s.name ∷ earlier) ls)) end
      (labels_by (says ++ s ∷ named_labels ls) names)) none
      ∙ ap (λ (xs : List NamedLabel). labels_unless (first_fault protocol names (s.name ∷ earlier) ls) end (labels_by xs names))
      (sym (append_assoc says (s ∷ []) (named_labels ls)))

  -- the place of the router that a line names
  record Names (s : NamedLabel) (k : ℕ) : Type 0 where
    found : position (bytes_eq s.name) names ≡ Some k
    known : list_any (bytes_eq s.name) names ≡ true

  names_place : (s : NamedLabel) (k : ℕ) → position (bytes_eq s.name) names ≡ Some k → Names s k
  names_place s k found = record { found = found; known = any_place (bytes_eq s.name) names ∙ ap is_some found }

  known_kind : (earlier : List (List ℕ)) (s : NamedLabel) (k : ℕ) → Names s k →
      kind_of protocol names earlier (Some s) ≡ cond (list_any (bytes_eq s.name) earlier) (Some Repeated)
      (cond (is_foreign protocol s.label) (Some WrongProtocol) None)
  known_kind earlier s k is = rw is.known refl

  -- a line that names a router
  agrees_named : (l : TextLine) (ls : List TextLine) → Agrees ls → (says : List NamedLabel) (earlier : List (List ℕ)) (st : LabelsSoFar) → IsOf says names st →
      AreEarlier says earlier → (s : NamedLabel) → named_label_of l.words ≡ Some s → (k : ℕ) → Names s k
      → (said : Option (Option Route)) → said_of says s.name ≡ said → (foreign : Bool) → is_foreign protocol s.label ≡ foreign →
      continue_with (with_label protocol l.number st k s.label) (answer_from protocol place_of end ls) ≡ judged_from says earlier (l ∷ filter has_words ls)
  agrees_named l ls rest says earlier st is are s e k named (Some label) said foreign f =
      let there : has_line st k ≡ true = line_of_name says names st s.name k is named.found ∙ ap is_some said in
      let before : list_any (bytes_eq s.name) earlier ≡ true = are s.name ∙ ap is_some said in
      let kind : kind_of protocol names earlier (named_label_of l.words) ≡ Some Repeated = ap (kind_of protocol names earlier) e ∙ known_kind earlier s k named
      ∙ ap (λ (b : Bool). cond b (Some Repeated) (cond (is_foreign protocol s.label) (Some WrongProtocol) None)) before in
      ap (λ (b : Bool). continue_with (cond b (Err (At l.number Repeated))
      (cond (is_foreign protocol s.label) (Err (At l.number WrongProtocol)) (Ok (with_label_at st k s.label)))) (answer_from protocol place_of end ls)) there
      ∙ sym (fault_first says earlier l (filter has_words ls) Repeated kind)
  agrees_named l ls rest says earlier st is are s e k named None said true f =
      let there : has_line st k ≡ false = line_of_name says names st s.name k is named.found ∙ ap is_some said in
      let before : list_any (bytes_eq s.name) earlier ≡ false = are s.name ∙ ap is_some said in
      let kind : kind_of protocol names earlier (named_label_of l.words) ≡ Some WrongProtocol = ap (kind_of protocol names earlier) e
      ∙ known_kind earlier s k named ∙ ap (λ (b : Bool). cond b (Some Repeated) (cond (is_foreign protocol s.label) (Some WrongProtocol) None)) before
      ∙ ap (λ (b : Bool). cond b (Some WrongProtocol) None) f in
      ap (λ (b : Bool). continue_with (cond b (Err (At l.number Repeated))
      (cond (is_foreign protocol s.label) (Err (At l.number WrongProtocol)) (Ok (with_label_at st k s.label)))) (answer_from protocol place_of end ls)) there
      ∙ ap (λ (b : Bool). continue_with (cond b (Err (At l.number WrongProtocol)) (Ok (with_label_at st k s.label))) (answer_from protocol place_of end ls)) f
      ∙ sym (fault_first says earlier l (filter has_words ls) WrongProtocol kind)
  agrees_named l ls rest says earlier st is are s e k named None said false f =
      let there : has_line st k ≡ false = line_of_name says names st s.name k is named.found ∙ ap is_some said in
      let before : list_any (bytes_eq s.name) earlier ≡ false = are s.name ∙ ap is_some said in
      let kind : kind_of protocol names earlier (Some s) ≡ None = known_kind earlier s k named
      ∙ ap (λ (b : Bool). cond b (Some Repeated) (cond (is_foreign protocol s.label) (Some WrongProtocol) None)) before
      ∙ ap (λ (b : Bool). cond b (Some WrongProtocol) None) f in
      ap (λ (b : Bool). continue_with (cond b (Err (At l.number Repeated))
      (cond (is_foreign protocol s.label) (Err (At l.number WrongProtocol)) (Ok (with_label_at st k s.label)))) (answer_from protocol place_of end ls)) there
      ∙ ap (λ (b : Bool). continue_with (cond b (Err (At l.number WrongProtocol)) (Ok (with_label_at st k s.label))) (answer_from protocol place_of end ls)) f
      ∙ rest (says ++ s ∷ []) (s.name ∷ earlier) (with_label_at st k s.label) (is_of_more says names st s k apart is named.found said)
      (earlier_more says earlier s are)
      ∙ sym (no_fault says earlier l (filter has_words ls) s e kind)

  agrees_placed : (l : TextLine) (ls : List TextLine) → Agrees ls → (says : List NamedLabel) (earlier : List (List ℕ)) (st : LabelsSoFar) → IsOf says names st →
      AreEarlier says earlier → (s : NamedLabel) → named_label_of l.words ≡ Some s → (p : Option ℕ) → position (bytes_eq s.name) names ≡ p
      → continue_with (with_place protocol l.number st s.label p) (answer_from protocol place_of end ls) ≡ judged_from says earlier (l ∷ filter has_words ls)
  agrees_placed l ls rest says earlier st is are s e None found =
      let unknown : list_any (bytes_eq s.name) names ≡ false = any_place (bytes_eq s.name) names ∙ ap is_some found in
      let kind : kind_of protocol names earlier (named_label_of l.words) ≡ Some UnknownRouter = ap (kind_of protocol names earlier) e
      ∙ ap (λ (b : Bool). cond (not b) (Some UnknownRouter)
      (cond (list_any (bytes_eq s.name) earlier) (Some Repeated) (cond (is_foreign protocol s.label) (Some WrongProtocol) None))) unknown in
      sym (fault_first says earlier l (filter has_words ls) UnknownRouter kind)
  agrees_placed l ls rest says earlier st is are s e (Some k) found =
      agrees_named l ls rest says earlier st is are s e k (names_place s k found) (said_of says s.name) refl (is_foreign protocol s.label) refl

  agrees_said : (l : TextLine) (ls : List TextLine) → Agrees ls → (says : List NamedLabel) (earlier : List (List ℕ)) (st : LabelsSoFar) → IsOf says names st →
      AreEarlier says earlier → (o : Option NamedLabel) → named_label_of l.words ≡ o
      → continue_with (with_named_label protocol place_of l.number st o) (answer_from protocol place_of end ls)
      ≡ judged_from says earlier (l ∷ filter has_words ls)
  agrees_said l ls rest says earlier st is are None e = sym (fault_first says earlier l (filter has_words ls) BadForm (ap (kind_of protocol names earlier) e))
  agrees_said l ls rest says earlier st is are (Some s) e =
      ap (λ (p : Option ℕ). continue_with (with_place protocol l.number st s.label p) (answer_from protocol place_of end ls)) (is_place s.name)
      ∙ agrees_placed l ls rest says earlier st is are s e (position (bytes_eq s.name) names) refl

  agrees_words : (l : TextLine) (ls : List TextLine) → Agrees ls → (says : List NamedLabel) (earlier : List (List ℕ)) (st : LabelsSoFar) → IsOf says names st →
      AreEarlier says earlier → (ws : List (List ℕ)) → l.words ≡ ws
      → continue_with (with_words protocol place_of l.number st ws) (answer_from protocol place_of end ls) ≡ judged_from says earlier
      (cond (are_some ws) (l ∷ filter has_words ls) (filter has_words ls))
  agrees_words l ls rest says earlier st is are [] e = rest says earlier st is are
  agrees_words l ls rest says earlier st is are (w ∷ ws) e = agrees_said l ls rest says earlier st is are (named_label_of (w ∷ ws)) (ap named_label_of e)

  none_at_fault : (says : List NamedLabel) (earlier : List (List ℕ)) → labels_unless None end (labels_by (says ++ []) names) ≡ judged_from says earlier []
  unfolding first_fault
  none_at_fault says earlier = refl

  agrees : (ls : List TextLine) → Agrees ls
  unfolding answer_from
  agrees [] says earlier st is are = ap (labels_unless None end)
      (labels_of says names st is ∙ ap (λ (xs : List NamedLabel). labels_by xs names) (sym (append-nil says))) ∙ none_at_fault says earlier
  agrees (l ∷ ls) says earlier st is are = agrees_words l ls (agrees ls) says earlier st is are l.words refl

-- the answer of all lines, where nothing is said before
pub answer_is : (protocol : Protocol) (names : List (List ℕ)) → AreApart names → (place_of : List ℕ → Option ℕ) →
    ((wanted : List ℕ) → place_of wanted ≡ position (bytes_eq wanted) names) → (bs : List ℕ)
    → answer_from protocol place_of (length (all_lines_of bs) + 1) (map (text_line bs) (all_lines_of bs)) (nothing_said (length names)) ≡ labels_of_text
    protocol names bs
unfolding labels_of_text solution_lines
answer_is protocol names apart place_of is_place bs =
    agrees protocol names apart place_of is_place (length (all_lines_of bs) + 1) (map (text_line bs) (all_lines_of bs)) [] [] (nothing_said (length names))
    (at_first names) (λ wanted. refl)
