-- How printed lines are read, piece by piece.
use Rattle.std.proofs.Common.{◌≡◌, Bool, true, false, List, [], ◌∷◌, ◌++◌, filter, Result, Ok, Err, refl, ap, ◌∙◌, append_assoc}
use Rattle.std.specs.List.{AllByRecursion, list_any}
use Rattle.std.proofs.lemmas.Bool.{or_parts}
use Rattle.std.proofs.lemmas.List.Elements.{filter-append}
use Rattle.cfg_ast.specs.declared.network.Router.{Router}
use Rattle.cfg_ast.specs.declared.items.Scope.TheVariants as scope
use Rattle.cfg_ast.specs.declared.items.RouterItem.{RouterItem}
use Rattle.cfg_ast.specs.declared.items.PolicyScope.TheVariants as policy_scope
use Rattle.cfg_ast.specs.declared.items.PolicyItem.{PolicyItem}
use Rattle.cfg_ast.specs.declared.refusal.ReadRefusal.{ReadRefusal}
use Rattle.cfg_ast.specs.text.TextLines.{TextLine}
use Rattle.cfg_ast.specs.text.PolicyLines.{is_policy_line}
use Rattle.cfg_ast.specs.text.RouterForms.{router_item_of}
use Rattle.cfg_ast.specs.text.PolicyForms.{policy_item_of}
use Rattle.cfg_ast.specs.text.Steps.{◌>>=◌}
use Rattle.cfg_ast.specs.text.Reading.{Stanza, Draft, State, with_closed, take_top, take_policy, step_router, step_policy, take_inner, step, steps}
use Rattle.cfg_ast.specs.printing.Printed.{closing}
use Rattle.cfg_round_trip.proofs.PrintedLines.{is_read}

steps_more : (xs ys : List TextLine) (s : State) → steps s (xs ++ ys) ≡ (steps s xs >>= (λ (t : State). steps t ys))
unfolding steps
steps_more [] ys s = refl
steps_more (x ∷ xs) ys s = by (step s x) (λ t. steps_more xs ys t)
  where
    by : (r : Result State ReadRefusal) → ((t : State) → steps t (xs ++ ys) ≡ (steps t xs >>= (λ (u : State). steps u ys))) →
        (r >>= (λ (t : State). steps t (xs ++ ys))) ≡ ((r >>= (λ (t : State). steps t xs)) >>= (λ (u : State). steps u ys))
    by (Ok t) rest = rest t
    by (Err fault) rest = refl

-- some lines and then others
pub then_steps : (xs ys : List TextLine) (s t : State) (r : Result State ReadRefusal) → steps s (filter is_read xs) ≡ Ok t → steps t (filter is_read ys) ≡ r →
    steps s (filter is_read (xs ++ ys)) ≡ r
then_steps xs ys s t r first second =
    ap (steps s) (filter-append is_read xs ys) ∙ steps_more (filter is_read xs) (filter is_read ys) s
    ∙ ap (λ (q : Result State ReadRefusal). q >>= (λ (u : State). steps u (filter is_read ys))) first ∙ second

-- a line that is read
pub one_step : (l : TextLine) (s t : State) → is_read l ≡ true → step s l ≡ Ok t → steps s (filter is_read (l ∷ [])) ≡ Ok t
unfolding steps
one_step l s t read stepped = rw (read, stepped) refl

-- ---- lines of an open stanza

abbrev pub at_stanza : List Router → Draft → Stanza → State
at_stanza rs d st = record { routers = rs; draft = record d { stanza = st } }

-- the lines take a stanza to another
abbrev pub Inner : List TextLine → Stanza → Stanza → Type 0
Inner ls st out = (rs : List Router) (d : Draft) → steps (at_stanza rs d st) (filter is_read ls) ≡ Ok (at_stanza rs d out)

pub inner_none : (st : Stanza) → Inner [] st st
unfolding steps
inner_none st rs d = refl

pub inner_then : (xs ys : List TextLine) (a b c : Stanza) → Inner xs a b → Inner ys b c → Inner (xs ++ ys) a c
inner_then xs ys a b c first second rs d = then_steps xs ys (at_stanza rs d a) (at_stanza rs d b) (Ok (at_stanza rs d c)) (first rs d) (second rs d)

inner_stepped : (l : TextLine) (st out : Stanza) (rs : List Router) (d : Draft) → l.indent ≡ 1 → take_inner l st ≡ Ok out →
    step (at_stanza rs d st) l ≡ Ok (at_stanza rs d out)
unfolding step
inner_stepped l st out rs d indent taken = rw (taken, indent) refl

pub inner_line : (l : TextLine) (st out : Stanza) → l.indent ≡ 1 → is_read l ≡ true → take_inner l st ≡ Ok out → Inner (l ∷ []) st out
inner_line l st out indent read taken rs d = one_step l (at_stanza rs d st) (at_stanza rs d out) read (inner_stepped l st out rs d indent taken)

-- a comment is no line that is read
pub inner_closing : (st : Stanza) → Inner (closing ∷ []) st st
unfolding steps
inner_closing st rs d = refl

-- ---- top lines

abbrev pub at_draft : List Router → Draft → State
at_draft rs d = record { routers = rs; draft = d }

-- the line takes a draft whose stanza is closed to another
abbrev pub Top : TextLine → Draft → Draft → Type 0
Top l d out = (rs : List Router) (now : Draft) → with_closed now ≡ d → step (at_draft rs now) l ≡ Ok (at_draft rs out)

pub router_top : (l : TextLine) (said : RouterItem) (d out : Draft) → l.indent ≡ 0 → is_policy_line l.words ≡ false →
    router_item_of scope.Top l.number l.words ≡ Ok said
    → ((rs : List Router) → take_top l.number said (at_draft rs d) ≡ Ok (at_draft rs out)) → Top l d out
unfolding step step_router
router_top l said d out indent plain read taken rs now same = rw (indent, plain, read, same) (taken rs)

pub policy_top : (l : TextLine) (said : PolicyItem) (d out : Draft) → l.indent ≡ 0 → is_policy_line l.words ≡ true →
    policy_item_of policy_scope.Top l.number l.words ≡ Ok said
    → take_policy l.number said d ≡ Ok out → Top l d out
unfolding step step_policy
policy_top l said d out indent listed read taken rs now same = rw (indent, listed, read, same, taken) refl

-- ---- pieces of a router

-- The lines take a draft to another, both with their stanza closed: it may still be open in fact.
abbrev pub Reads : List TextLine → Draft → Draft → Type 0
Reads ls d out = (rs : List Router) (now : Draft) → with_closed now ≡ d → (next : Draft) × (steps (at_draft rs now) (filter is_read ls) ≡ Ok (at_draft rs next))
    × (with_closed next ≡ out)

pub reads_none : (d : Draft) → Reads [] d d
unfolding steps
reads_none d rs now same = (now, refl, same)

pub reads_then : (xs ys : List TextLine) (a b c : Draft) → Reads xs a b → Reads ys b c → Reads (xs ++ ys) a c
reads_then xs ys a b c first second rs now same =
    let half = first rs now same in
    let whole = second rs half.0 half.2 in
    (whole.0, then_steps xs ys (at_draft rs now) (at_draft rs half.0) (Ok (at_draft rs whole.0)) half.1 whole.1, whole.2)

-- a line that opens no stanza
pub reads_line : (l : TextLine) (d out : Draft) → is_read l ≡ true → Top l d out → with_closed out ≡ out → Reads (l ∷ []) d out
reads_line l d out read top closed rs now same = (out, one_step l (at_draft rs now) (at_draft rs out) read (top rs now same), closed)

-- a line that opens a stanza, and the lines of the stanza
pub reads_stanza : (l : TextLine) (ls : List TextLine) (d : Draft) (st out : Stanza) → is_read l ≡ true → Top l d (record d { stanza = st }) → Inner ls st out →
    Reads (l ∷ ls) d (with_closed (record d { stanza = out }))
reads_stanza l ls d st out read top inner rs now same = (
  record d { stanza = out },
  then_steps (l ∷ []) ls (at_draft rs now) (at_stanza rs d st) (Ok (at_stanza rs d out))
      (one_step l (at_draft rs now) (at_stanza rs d st) read (top rs now same)) (inner rs d),
  refl,
)

-- lines that are not read
pub reads_skipped : (ls : List TextLine) (d : Draft) → AllByRecursion (λ (l : TextLine). is_read l ≡ false) ls → Reads ls d d
unfolding steps
reads_skipped [] d all rs now same = (now, refl, same)
reads_skipped (l ∷ ls) d all rs now same = let rest = reads_skipped ls d all.1 rs now same in (rest.0, rw all.0 rest.1, rest.2)

-- ---- what is new to a list

-- each of these is new to the list
abbrev pub AreNew : {X : Type 0} → (X → X → Bool) → List X → List X → Type 0
AreNew {X} same done ys = AllByRecursion (λ (y : X). list_any (λ (x : X). same x y) done ≡ false) ys

pub new_to_none : {X : Type 0} (same : X → X → Bool) (ys : List X) → AreNew same [] ys
new_to_none same [] = tt
new_to_none same (y ∷ ys) = (refl, new_to_none same ys)

any_push : {X : Type 0} (test : X → Bool) (xs : List X) (x : X) → list_any test xs ≡ false → test x ≡ false → list_any test (xs ++ x ∷ []) ≡ false
any_push test [] x none here = rw here refl
any_push test (y ∷ ys) x none here =
    let both = or_parts (test y) (list_any test ys) none in
    rw both.0 (any_push test ys x both.1 here)

-- and they stay so where one is added that differs from all
pub new_to_more : {X : Type 0} (same : X → X → Bool) (done : List X) (x : X) (ys : List X) → AreNew same done ys →
    AllByRecursion (λ (y : X). same x y ≡ false) ys → AreNew same (done ++ x ∷ []) ys
new_to_more same done x [] new differ = tt
new_to_more {X} same done x (y ∷ ys) new differ = (any_push (λ (z : X). same z y) done x new.0 differ.0, new_to_more same done x ys new.1 differ.1)

pub grown : {X : Type 0} (done : List X) (x : X) (rest : List X) → (done ++ x ∷ []) ++ rest ≡ done ++ x ∷ rest
grown done x rest = append_assoc done (x ∷ []) rest
