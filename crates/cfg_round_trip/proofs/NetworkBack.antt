-- The printed text of a network is read back as the same network except for line numbers.
use Rattle.std.proofs.Common.{◌≡◌, ℕ, ◌+◌, ◌-◌, ◌≤◌, Bool, true, false, cond, List, [], ◌∷◌, ◌++◌, length, filter, map, replicate, Some, Ok, refl, sym, ap, ◌∙◌, arith, append_assoc}
use Rattle.std.specs.Prelude.{◌==◌, slice_get}
use Rattle.std.specs.List.{AllByRecursion, join_with_byte}
use Rattle.std.proofs.lemmas.List.{append-nil, length-append}
use Rattle.std.proofs.lemmas.List.Elements.{filter-append}
use Rattle.cfg_ast.specs.declared.network.Network.{Network}
use Rattle.cfg_ast.specs.declared.network.Notes.{Notes}
use Rattle.cfg_ast.specs.declared.network.Router.{Router}
use Rattle.cfg_ast.specs.text.TextLines.{TextLine}
use Rattle.cfg_ast.specs.text.Reading.{no_draft, steps, end_at, ending, network_of_lines, texts_of, network_of_text}
use Rattle.cfg_ast.specs.printing.Printed.{router_lines, routers_lines, printed_lines, line_text, lines_text, printed}
use Rattle.cfg_ast.specs.printing.Bare.{bare_line, bare_router, bare}
use Rattle.cfg_ast.specs.printing.WellFormed.{IsWellFormedRouter, IsWellFormed}
use Rattle.std.specs.List.{AllByRecursion-prop}
use Rattle.std.proofs.Props.{props}
use Rattle.std.proofs.Math.Logic.{∥∥₁_elim}
use Rattle.given_laws.proofs.WellFormed.{given_is_well_formed}
use Rattle.cfg_round_trip.specs.Laws.{PrintedIsReadBack, GivenLinesAreShort, GivenIsReadBack}
use Rattle.cfg_round_trip.proofs.Numbers.{numbers_are_aside}
use Rattle.cfg_round_trip.proofs.PrintedLines.{is_read}
use Rattle.cfg_round_trip.proofs.PrintedNetwork.{printed_lines_are_lines}
use Rattle.cfg_round_trip.proofs.ReadBack.{at_draft, then_steps}
use Rattle.cfg_round_trip.proofs.RouterBack.{router_front, end_line, router_back}
use Rattle.cfg_round_trip.proofs.ShortLines.{lines_are_short}
use Rattle.cfg_round_trip.proofs.ShortSteps.{given_is_short}
use Rattle.cfg_round_trip.proofs.TextLines.{lines_back}
use Rattle.cfg_round_trip.proofs.Twice.{bare_twice}

-- ---- all routers

all_routers : (rs done : List Router) (members : List (List (List ℕ))) → AllByRecursion IsWellFormedRouter rs →
    steps (at_draft done no_draft) (filter is_read (routers_lines rs members)) ≡ Ok (at_draft (done ++ map bare_router rs) no_draft)
unfolding steps
all_routers [] done members are = ap (λ (rs : List Router). Ok (at_draft rs no_draft)) (sym (append-nil done))
all_routers (r ∷ rs) done [] are =
    then_steps (router_lines r []) (routers_lines rs []) (at_draft done no_draft) (at_draft (done ++ bare_router r ∷ []) no_draft)
    (Ok (at_draft (done ++ map bare_router (r ∷ rs)) no_draft)) (router_back r [] done are.0)
    (all_routers rs (done ++ bare_router r ∷ []) [] are.1
    ∙ ap (λ (ts : List Router). Ok (at_draft ts no_draft)) (append_assoc done (bare_router r ∷ []) (map bare_router rs)))
all_routers (r ∷ rs) done (names ∷ members) are =
    then_steps (router_lines r names) (routers_lines rs members) (at_draft done no_draft) (at_draft (done ++ bare_router r ∷ []) no_draft)
    (Ok (at_draft (done ++ map bare_router (r ∷ rs)) no_draft)) (router_back r names done are.0)
    (all_routers rs (done ++ bare_router r ∷ []) members are.1
    ∙ ap (λ (ts : List Router). Ok (at_draft ts no_draft)) (append_assoc done (bare_router r ∷ []) (map bare_router rs)))

-- ---- the last line

-- there are no lines, or the last is the line `end`
abbrev EndsWell : List TextLine → Type 0
EndsWell [] = Unit {0}
EndsWell (l ∷ ls) = (front : List TextLine) × (l ∷ ls ≡ front ++ end_line ∷ [])

ends_after : (xs front : List TextLine) (ls : List TextLine) → ls ≡ front ++ end_line ∷ [] → (whole : List TextLine) × (xs ++ ls ≡ whole ++ end_line ∷ [])
ends_after xs front ls e = (xs ++ front, ap (λ (ys : List TextLine). xs ++ ys) e ∙ sym (append_assoc xs front (end_line ∷ [])))

router_ends : (r : Router) (names : List (List ℕ)) → (front : List TextLine) × (router_lines r names ≡ front ++ end_line ∷ [])
unfolding router_lines
router_ends r names = (router_front r names, refl)

-- lines that end with the line `end`, and then none or others that do
ends_more : (xs ls : List TextLine) → ((front : List TextLine) × (xs ≡ front ++ end_line ∷ [])) → EndsWell ls → (front : List TextLine)
    × (xs ++ ls ≡ front ++ end_line ∷ [])
ends_more xs [] first rest = (first.0, append-nil xs ∙ first.1)
ends_more xs (l ∷ ls) first rest = ends_after xs rest.0 (l ∷ ls) rest.1

well : (ls : List TextLine) → ((front : List TextLine) × (ls ≡ front ++ end_line ∷ [])) → EndsWell ls
well [] e = tt
well (l ∷ ls) e = e

routers_end : (rs : List Router) (members : List (List (List ℕ))) → EndsWell (routers_lines rs members)
routers_end [] members = tt
routers_end (r ∷ rs) [] = well (router_lines r [] ++ routers_lines rs [])
    (ends_more (router_lines r []) (routers_lines rs []) (router_ends r []) (routers_end rs []))
routers_end (r ∷ rs) (names ∷ members) =
    well (router_lines r names ++ routers_lines rs members)
    (ends_more (router_lines r names) (routers_lines rs members) (router_ends r names) (routers_end rs members))

last_of : (front : List TextLine) (l : TextLine) → slice_get (front ++ l ∷ []) (length front) ≡ Some l
last_of [] l = refl
last_of (x ∷ front) l = last_of front l

ending_of : (front : List TextLine) → ending (front ++ end_line ∷ []) ≡ Ok tt
unfolding ending
ending_of front =
    let n : length (front ++ end_line ∷ []) - 1 ≡ length front = omega (arith, length-append front (end_line ∷ [])) in
    ap (λ k. end_at (slice_get (front ++ end_line ∷ []) k)) n ∙ ap end_at (last_of front end_line)

ending_read : (ls : List TextLine) → EndsWell ls → ending (filter is_read ls) ≡ Ok tt
unfolding ending
ending_read [] e = refl
ending_read (l ∷ ls) e = ap (λ (xs : List TextLine). ending (filter is_read xs)) e.1 ∙ ap ending (filter-append is_read e.0 (end_line ∷ []))
    ∙ ending_of (filter is_read e.0)

-- ---- the network

lines_network : (network : Network) (notes : Notes) → IsWellFormed network → network_of_lines (filter is_read (printed_lines network notes)) ≡ Ok (bare network)
unfolding network_of_lines
lines_network network notes is = rw (
  all_routers network.routers [] notes.members is.routers,
  ending_read (routers_lines network.routers notes.members) (routers_end network.routers notes.members),
) refl

read_bare : (ls : List TextLine) → filter is_read (map bare_line ls) ≡ map bare_line (filter is_read ls)
read_bare [] = refl
read_bare (l ∷ ls) = by (is_read l) (read_bare ls)
  where
    by : (b : Bool) → filter is_read (map bare_line ls) ≡ map bare_line (filter is_read ls) →
        cond b (bare_line l ∷ filter is_read (map bare_line ls)) (filter is_read (map bare_line ls)) ≡ map bare_line
        (cond b (l ∷ filter is_read ls) (filter is_read ls))
    by true rest = ap (λ (xs : List TextLine). bare_line l ∷ xs) rest
    by false rest = rest

-- ---- the text

newlines_more : (xs ys : List ℕ) → length (filter (λ b. b == 10) (xs ++ ys)) ≡ length (filter (λ b. b == 10) xs) + length (filter (λ b. b == 10) ys)
newlines_more xs ys = ap (λ (bs : List ℕ). length bs) (filter-append (λ b. b == 10) xs ys) ∙ length-append (filter (λ b. b == 10) xs) (filter (λ b. b == 10) ys)

-- each line ends with a newline
some_newline : (front : List ℕ) → 1 ≤ length (filter (λ b. b == 10) (front ++ 10 ∷ []))
some_newline front = let e = newlines_more front (10 ∷ []) in omega (arith, e)

lines_counted : (ls : List TextLine) → length ls ≤ length (filter (λ b. b == 10) (lines_text ls))
lines_counted [] = omega arith
lines_counted (l ∷ ls) = let e = newlines_more (line_text l) (lines_text ls) in
    omega (arith, e, some_newline (replicate l.indent 32 ++ join_with_byte 32 l.words), lines_counted ls)

pub printed_is_read_back : PrintedIsReadBack
unfolding network_of_text printed
printed_is_read_back network notes is are few short =
    let ls = printed_lines network notes in
    let back = lines_back ls (printed_lines_are_lines network notes is are) (omega (arith, few, lines_counted ls)) short in
    let kept = texts_of (lines_text ls) back.0 in
    let same : map bare_line (filter is_read ls) ≡ map bare_line kept = sym (back.2 ∙ read_bare ls) in
    let read = numbers_are_aside (filter is_read ls) kept same (bare network) (lines_network network notes is) in
    record { read = read.0; reads = rw back.1 read.1; same = read.2 ∙ bare_twice network }

-- ---- networks that some text gives

pub given_lines_are_short : GivenLinesAreShort
given_lines_are_short network notes known are =
    ∥∥₁_elim known (AllByRecursion-prop (λ (l : TextLine). length (line_text l) ≤ 1025) (λ l. hlevel props) (printed_lines network notes))
    (λ given. lines_are_short network notes (given_is_well_formed network known) (given_is_short network given) are)

pub given_is_read_back : GivenIsReadBack
given_is_read_back network notes known are few =
    printed_is_read_back network notes (given_is_well_formed network known) are few (given_lines_are_short network notes known are)
