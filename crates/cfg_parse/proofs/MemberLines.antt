-- The members of a text, line by line.
use Rattle.std.proofs.Common.{◌≡◌, ℕ, ◌+◌, ◌<◌, ◌≤◌, Bool, true, false, ◌&&◌, List, [], ◌∷◌, ◌++◌, length, map, get_or, drop, refl, sym, ap, ◌∙◌, arith, append_assoc, count_by, Option, Some, None}
use Rattle.std.specs.List.{slice_split, onto_first, cons_option, list_all}
use Rattle.std.specs.Str.{IsAscii}
use Rattle.std.proofs.lemmas.List.{append-nil, drop_more, drop_all}
use Rattle.std.proofs.lemmas.List.Sums.{AllPass-from_list_all}
use Rattle.std.proofs.lemmas.List.Splits.{length-slice_split}
use Rattle.std.proofs.lemmas.Bool.Decides.{nat_tests}
use Rattle.std.proofs.lemmas.Str.Ascii.{IsAscii-from_all}
use Rattle.cfg_ast.specs.declared.line.Line.{Line}
use Rattle.cfg_ast.specs.text.TextLines.{TextLine, text_line}
use Rattle.cfg_ast.specs.text.Words.{is_router_name, is_router_byte, is_name_long, begins_with, is_letter_or_digit}
use Rattle.cfg_ast.specs.text.Members.{is_end_line, member_on, members_on, members_in, before_last}
use Rattle.cfg_parse.specs.declared.members.Found.{Found}
use Rattle.cfg_parse.specs.MemberSteps.{with_member, with_member_line}

-- ---- names

second : (a b : Bool) → (a && b) ≡ true → b ≡ true
second true b e = e
second false b e = absurd cc

small : (b : ℕ) → is_router_byte b ≡ true → b < 128
small b e = grind (arith, nat_tests)

pub router_name_is_ascii : (name : List ℕ) → is_router_name name ≡ true → IsAscii name
unfolding is_router_name
router_name_is_ascii name e =
    let bytes = AllPass-from_list_all is_router_byte name (second (is_name_long name && begins_with is_letter_or_digit name) (list_all is_router_byte name) e)
    in
    IsAscii-from_all name (λ k d lt. small (get_or name k d) (bytes k d lt))

-- ---- parts

-- names put to the first router that ends
abbrev pub onto_ended : List (List ℕ) → List (List (List ℕ)) → List (List (List ℕ))
onto_ended names [] = []
onto_ended names (first ∷ more) = (names ++ first) ∷ more

none_put : (xs : List (List (List ℕ))) → onto_ended [] xs ≡ xs
none_put [] = refl
none_put (x ∷ xs) = refl

part_ends : (names : List (List ℕ)) (parts : List (List TextLine)) (n : ℕ) → length parts ≡ n + 1 →
    onto_ended names (map members_on (before_last ([] ∷ parts))) ≡ names ∷ map members_on (before_last parts)
part_ends names [] n e = absurd (omega arith)
part_ends names (p ∷ ps) n e = ap (λ (x : List (List ℕ)). x ∷ map members_on (before_last (p ∷ ps))) (append-nil names)

name_first : (names : List (List ℕ)) (o : Option (List ℕ)) (xs : List (List ℕ)) → names ++ cons_option o xs ≡ (names ++ cons_option o []) ++ xs
name_first names None xs = sym (ap (λ (n : List (List ℕ)). n ++ xs) (append-nil names))
name_first names (Some x) xs = sym (append_assoc names (x ∷ []) xs)

part_grows : (names : List (List ℕ)) (l : TextLine) (parts : List (List TextLine)) (n : ℕ) → length parts ≡ n + 1 →
    onto_ended names (map members_on (before_last (onto_first l parts))) ≡ onto_ended (with_member names l) (map members_on (before_last parts))
part_grows names l [] n e = absurd (omega arith)
part_grows names l (p ∷ []) n e = refl
part_grows names l (p ∷ q ∷ ps) n e = ap (λ (x : List (List ℕ)). x ∷ map members_on (before_last (q ∷ ps)))
    (name_first names (member_on l.words) (members_on p))

-- what stands so far, with what the rest gives
abbrev pub all_found : Found → List TextLine → List (List (List ℕ))
all_found f ls = f.ended ++ onto_ended f.names (members_in ls)

line_case : (f : Found) (l : TextLine) (ls : List TextLine) (b : Bool) → is_end_line l ≡ b → all_found (with_member_line f l) ls ≡ all_found f (l ∷ ls)
line_case f l ls true e =
    let parts = slice_split is_end_line ls in
    rw e (append_assoc f.ended (f.names ∷ []) (onto_ended [] (members_in ls))
    ∙ ap (λ (xs : List (List (List ℕ))). f.ended ++ f.names ∷ xs) (none_put (members_in ls))
    ∙ ap (λ (xs : List (List (List ℕ))). f.ended ++ xs) (sym (part_ends f.names parts (count_by is_end_line ls) (length-slice_split is_end_line ls))))
line_case f l ls false e = rw e (ap (λ (xs : List (List (List ℕ))). f.ended ++ xs)
    (sym (part_grows f.names l (slice_split is_end_line ls) (count_by is_end_line ls) (length-slice_split is_end_line ls))))

pub found_step : (f : Found) (l : TextLine) (ls : List TextLine) → all_found (with_member_line f l) ls ≡ all_found f (l ∷ ls)
found_step f l ls = line_case f l ls (is_end_line l) refl

abbrev pub texts_from : List ℕ → ℕ → List Line → List TextLine
texts_from bs i ls = map (text_line bs) (drop i ls)

pub members_step : (bs : List ℕ) (f : Found) (ls : List Line) (i : ℕ) (x : Line) → i < length ls → x ≡ get_or ls i x →
    all_found (with_member_line f (text_line bs x)) (texts_from bs (i + 1) ls) ≡ all_found f (texts_from bs i ls)
members_step bs f ls i x lt e = found_step f (text_line bs x) (texts_from bs (i + 1) ls)
    ∙ ap (λ (rest : List Line). all_found f (map (text_line bs) rest)) (sym (drop_more ls i x lt ∙ ap (λ (y : Line). y ∷ drop (i + 1) ls) (sym e)))

abbrev pub none_found : Found
none_found = record { ended = []; names = [] }

pub members_start : (bs : List ℕ) (ls : List Line) → all_found none_found (texts_from bs 0 ls) ≡ members_in (map (text_line bs) ls)
members_start bs ls = none_put (members_in (map (text_line bs) ls))

pub members_end : (bs : List ℕ) (f : Found) (ls : List Line) (i : ℕ) → length ls ≤ i → all_found f (texts_from bs i ls) ≡ f.ended
members_end bs f ls i le = ap (λ (rest : List Line). all_found f (map (text_line bs) rest)) (drop_all i ls le) ∙ append-nil f.ended
