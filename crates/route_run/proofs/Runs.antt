-- Runs, one activation after the other, and the runs of schedules.
use Rattle.std.proofs.Common.{◌≡◌, ℕ, zero, suc, ◌+◌, ◌<◌, List, [], ◌∷◌, ◌++◌, length, map, take, get_or, Option, refl, sym, ap, ◌∙◌, arith, inl, inr, append-nil}
use Rattle.std.specs.Prelude.{All}
use Rattle.std.specs.List.{range_with_len}
use Rattle.std.proofs.lemmas.List.{take_more, map_push}
use Rattle.std.proofs.lemmas.List.Concat.{flat_map-append}
use Rattle.std.proofs.lemmas.List.Elements.{All-contains}
use Rattle.base_kit.proofs.Elements.{In, contains_in, in_flat_map, in_at}
use Rattle.srp_core.specs.declared.route.Route.{Route}
use Rattle.srp_core.specs.Problem.{Problem, count}
use Rattle.route_run.specs.declared.schedule.Activation.{Activation}
use Rattle.route_run.specs.Activations.{activated, labels_after}
use Rattle.route_run.specs.Schedules.{routers_of, run_of}

pub all_from : {X : Type 0} (Q : X → Type 0) (xs : List X) → ((x : X) → In xs x → Q x) → All Q xs
all_from Q [] h k d less = absurd (omega arith)
all_from Q (x ∷ xs) h zero d less = h x (inl refl)
all_from Q (x ∷ xs) h (suc k) d less = all_from Q xs (λ y i. h y (inr i)) k d (omega arith)

pub all_in : {X : Type 0} (Q : X → Type 0) (xs : List X) (x : X) → All Q xs → In xs x → Q x
all_in Q xs x all i = All-contains Q xs x all (contains_in xs x i)

pub range_more : (a n : ℕ) → range_with_len a (n + 1) ≡ range_with_len a n ++ (a + n) ∷ []
range_more a zero = let e : a ≡ a + 0 = omega arith in ap (λ (k : ℕ). k ∷ []) e
range_more a (suc n) =
    let e : a + 1 + n ≡ a + suc n = omega arith in
    let next : suc n + 1 ≡ suc (n + 1) = omega arith in
    ap (range_with_len a) next ∙ ap (λ (xs : List ℕ). a ∷ xs) (range_more (a + 1) n ∙ ap (λ (k : ℕ). range_with_len (a + 1) n ++ k ∷ []) e)

pub range_next : (n : ℕ) → range_with_len 0 (n + 1) ≡ range_with_len 0 n ++ n ∷ []
range_next n = range_more 0 n ∙ ap (λ (k : ℕ). range_with_len 0 n ++ k ∷ []) (let e : 0 + n ≡ n = omega arith in e)

pub map_range_next : {X : Type 0} (f : ℕ → X) (n : ℕ) → map f (range_with_len 0 (n + 1)) ≡ map f (range_with_len 0 n) ++ f n ∷ []
map_range_next f n = ap (map f) (range_next n) ∙ map_push f (range_with_len 0 n) n

-- one run after the other
pub after_append : (P : Problem) (L : List (Option Route)) (first second : List ℕ) →
    labels_after P L (first ++ second) ≡ labels_after P (labels_after P L first) second
after_append P L [] second = refl
after_append P L (u ∷ first) second = after_append P (activated P L u) first second

-- one router more of a round
pub after_next : (P : Problem) (L now new : List (Option Route)) (n : ℕ) → now ≡ labels_after P L (range_with_len 0 n) → new ≡ activated P now n →
    new ≡ labels_after P L (range_with_len 0 (n + 1))
after_next P L now new n so_far next =
    next ∙ ap (λ (l : List (Option Route)). activated P l n) so_far ∙ sym (after_append P L (range_with_len 0 n) (n ∷ []))
    ∙ sym (ap (labels_after P L) (range_next n))

run_more : (count : ℕ) (schedule : List Activation) (i : ℕ) (a : Activation) → i < length schedule → a ≡ get_or schedule i a →
    run_of count (take (i + 1) schedule) ≡ run_of count (take i schedule) ++ routers_of count a
run_more count schedule i a less is =
    ap (run_of count) (take_more schedule i a less ∙ ap (λ (x : Activation). take i schedule ++ x ∷ []) (sym is))
    ∙ flat_map-append (routers_of count) (take i schedule) (a ∷ [])
    ∙ ap (λ (xs : List ℕ). run_of count (take i schedule) ++ xs) (append-nil (routers_of count a))

-- one activation more of a schedule
pub schedule_next : (P : Problem) (L now new : List (Option Route)) (schedule : List Activation) (i : ℕ) (a : Activation) → i < length schedule →
    a ≡ get_or schedule i a
    → now ≡ labels_after P L (run_of (count P) (take i schedule)) → new ≡ labels_after P now (routers_of (count P) a) →
    new ≡ labels_after P L (run_of (count P) (take (i + 1) schedule))
schedule_next P L now new schedule i a less is so_far next =
    next ∙ ap (λ (l : List (Option Route)). labels_after P l (routers_of (count P) a)) so_far
    ∙ sym (after_append P L (run_of (count P) (take i schedule)) (routers_of (count P) a))
    ∙ sym (ap (labels_after P L) (run_more (count P) schedule i a less is))

-- the routers of an activation are those of the run
pub routers_inside : (count : ℕ) (schedule : List Activation) (i : ℕ) (a : Activation) → i < length schedule → a ≡ get_or schedule i a →
    All (λ u. u < count) (run_of count schedule) → All (λ u. u < count) (routers_of count a)
routers_inside count schedule i a less is all =
    all_from (λ u. u < count) (routers_of count a)
    (λ u h. all_in (λ u. u < count) (run_of count schedule) u all (in_flat_map (routers_of count) schedule a u (in_at schedule a i less (sym is)) h))
