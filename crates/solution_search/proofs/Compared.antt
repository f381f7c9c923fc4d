-- How offers compare, and the best of some routes once there is one more.
use Rattle.std.proofs.Common.{◌≡◌, ◌≢◌, ◌⊎◌, Bool, true, false, Option, Some, None, refl, sym, ap, ◌∙◌, subst, inl, inr}
use Rattle.std.specs.Prelude.{if◌then◌else◌}
use Rattle.std.specs.Ordering.{nat_cmp, ordering_then}
use Rattle.std.specs.Cmp.Lexicographic.{slice_cmp}
use Rattle.std.specs.declared.cmp.Ordering.{Ordering}
use Rattle.std.specs.declared.cmp.Ordering.TheVariants.{Less, Equal, Greater}
use Rattle.srp_core.specs.declared.route.Route.{Route}
use Rattle.srp_core.specs.Routes.{Key, path_of, comms_of, chosen, compare_keys}
use Rattle.srp_core.specs.Problem.{Problem, is_lone_number, key_of}
use Rattle.srp_core.specs.Weak.{compare_weak}
use Rattle.srp_core.proofs.KeyOrder.{key_total, keys_equal, irreflexive}
use Rattle.route_keys.specs.Keys.{key_with}
use Rattle.solution_search.specs.declared.bests.Best.{Best}
use Rattle.solution_search.specs.declared.bests.Difference.{Difference}
use Rattle.solution_search.specs.declared.bests.Rank.{Rank}
use Rattle.solution_search.specs.declared.bests.Rank.TheVariants as rank
use Rattle.solution_search.specs.Bests.{key_of_best, rank_by, rank_of, told, joined, with_tie, replaced, IsFresh, IsBestOf, KnowsBest, HoldsBest}
use Rattle.solution_search.specs.Boards.{better_than}
use Rattle.solution_search.proofs.WeakOrder.{weak_better, weak_equal}

then_assoc : (a b c : Ordering) → ordering_then a (ordering_then b c) ≡ ordering_then (ordering_then a b) c
then_assoc Less b c = refl
then_assoc Equal b c = refl
then_assoc Greater b c = refl

-- the order of keys asks for preference and size first
split : (a b : Key) → compare_keys a b ≡ ordering_then (compare_weak a b) (ordering_then (slice_cmp nat_cmp a.comms b.comms) (slice_cmp nat_cmp a.lone b.lone))
unfolding compare_keys compare_weak
split a b = then_assoc (nat_cmp b.preference a.preference) (nat_cmp a.size b.size)
    (ordering_then (slice_cmp nat_cmp a.comms b.comms) (slice_cmp nat_cmp a.lone b.lone))

-- what a rank says of the keys
abbrev pub Means : Key → Key → Rank → Type 0
Means a b rank.Better = compare_weak a b ≡ Less
Means a b rank.Equal = a ≡ b
Means a b rank.Worse = compare_weak a b ≡ Greater
Means a b (rank.TiedBetter difference) = (compare_weak a b ≡ Equal) × (compare_keys a b ≡ Less)
Means a b (rank.TiedWorse difference) = (compare_weak a b ≡ Equal) × (compare_keys a b ≡ Greater)

means_by : (a b : Key) (w c l : Ordering) → compare_weak a b ≡ w → compare_keys a b ≡ ordering_then w (ordering_then c l) → Means a b (rank_by w c l)
means_by a b Less c l e k = e
means_by a b Greater c l e k = e
means_by a b Equal Less l e k = (e, k)
means_by a b Equal Greater l e k = (e, k)
means_by a b Equal Equal Less e k = (e, k)
means_by a b Equal Equal Greater e k = (e, k)
means_by a b Equal Equal Equal e k = keys_equal a b k

means_of_best : (offer best : Best) → Means (key_of_best offer) (key_of_best best) (rank_of offer best)
means_of_best offer best = means_by (key_of_best offer) (key_of_best best) (compare_weak (key_of_best offer) (key_of_best best))
    (slice_cmp nat_cmp (comms_of offer.route) (comms_of best.route)) (slice_cmp nat_cmp offer.lone best.lone) refl
    (split (key_of_best offer) (key_of_best best))

key_told : (P : Problem) (best : Best) → best.lone ≡ chosen (is_lone_number P) (path_of best.route) → key_of_best best ≡ key_of P best.route
key_told P best e = ap (key_with best.route) e

pub means : (P : Problem) (offer best : Best) → offer.lone ≡ chosen (is_lone_number P) (path_of offer.route) →
    best.lone ≡ chosen (is_lone_number P) (path_of best.route) →
    Means (key_of P offer.route) (key_of P best.route) (rank_of offer best)
means P offer best e f = subst (λ (k : Key). Means (key_of P offer.route) k (rank_of offer best)) (key_told P best f)
    (subst (λ (k : Key). Means k (key_of_best best) (rank_of offer best)) (key_told P offer e) (means_of_best offer best))

-- ---- the order

pub not_less : (a b : Key) → compare_keys a b ≡ Greater → compare_keys a b ≢ Less
not_less a b e f = absurd (cc)

pub weakly_worse : (a b : Key) → compare_weak a b ≡ Greater → compare_keys a b ≢ Less
weakly_worse a b e f =
    let s = split a b in
    let g : compare_keys a b ≡ Greater = s ∙ ap (λ (o : Ordering). ordering_then o
    (ordering_then (slice_cmp nat_cmp a.comms b.comms) (slice_cmp nat_cmp a.lone b.lone))) e in
    absurd (cc)

-- what is beaten by none is not beaten by what beats it
unbeaten_on : (c a b : Key) → compare_keys a b ≡ Less → compare_keys c b ≢ Less → compare_keys c a ≢ Less
unbeaten_on c a b less not e = not (key_total.trans c a b e less)

weak_moved : (c a b : Key) → c.preference ≡ a.preference → c.size ≡ a.size → compare_weak a b ≡ Less → compare_weak c b ≡ Less
unfolding compare_weak
weak_moved c a b p s less = ap (λ n. ordering_then (nat_cmp b.preference n) (nat_cmp c.size b.size)) p
    ∙ ap (λ n. ordering_then (nat_cmp b.preference a.preference) (nat_cmp n b.size)) s ∙ less

-- equal by preference and size to what is better by them
weak_on : (c a b : Key) → compare_weak a b ≡ Less → compare_weak c a ≡ Equal → compare_keys c b ≡ Less
weak_on c a b less same = let e = weak_equal c a same in weak_better c b (weak_moved c a b e.0 e.1 less)

-- ---- one route more

-- the routes met so far and one more
abbrev pub More : (Route → Type 0) → Route → Route → Type 0
More IsMet other c = IsMet c ⊎ (c ≡ other)

abbrev pub after_put : Option Best → Option Best → Option Best
after_put known None = known
after_put known (Some best) = Some best

module _ (P : Problem) (IsMet : Route → Type 0) where
  stays : (best offer : Best) → IsBestOf P IsMet best → compare_keys (key_of P offer.route) (key_of P best.route) ≢ Less →
      (best.tied ≡ None → compare_weak (key_of P offer.route) (key_of P best.route) ≡ Equal → key_of P offer.route ≡ key_of P best.route) →
      IsBestOf P (More IsMet offer.route) best
  stays best offer q not same = record {
    held = inl q.held;
    lone = q.lone;
    unbeaten = λ c m. elim m [
      | inl old ↦ q.unbeaten c old
      | inr new ↦ subst (λ (r : Route). compare_keys (key_of P r) (key_of P best.route) ≢ Less) (sym new) not
    ];
    same = λ untied c m. elim m [
      | inl old ↦ q.same untied c old
      | inr new ↦ subst (λ (r : Route). compare_weak (key_of P r) (key_of P best.route) ≡ Equal → key_of P r ≡ key_of P best.route) (sym new) (same untied)
    ];
  }

  tells_tie : (best offer : Best) (difference : Difference) → IsBestOf P IsMet best → compare_keys (key_of P offer.route) (key_of P best.route) ≢ Less →
      IsBestOf P (More IsMet offer.route) (with_tie best difference)
  tells_tie best offer difference q not = record {
    held = inl q.held;
    lone = q.lone;
    unbeaten = λ c m. elim m [
      | inl old ↦ q.unbeaten c old
      | inr new ↦ subst (λ (r : Route). compare_keys (key_of P r) (key_of P best.route) ≢ Less) (sym new) not
    ];
    same = λ untied. absurd (cc);
  }

  replaces : (best offer : Best) → IsBestOf P IsMet best → IsFresh P offer → compare_weak (key_of P offer.route) (key_of P best.route) ≡ Less →
      IsBestOf P (More IsMet offer.route) offer
  replaces best offer q fresh less =
      let better = weak_better (key_of P offer.route) (key_of P best.route) less in
      record {
        held = inr refl;
        lone = fresh.lone;
        unbeaten = λ c m. elim m [
          | inl old ↦ unbeaten_on (key_of P c) (key_of P offer.route) (key_of P best.route) better (q.unbeaten c old)
          | inr new ↦ irreflexive (key_of P c) (key_of P offer.route) (ap (key_of P) new)
        ];
        same = λ untied c m. elim m [
          | inl old ↦ λ e. absurd (q.unbeaten c old (weak_on (key_of P c) (key_of P offer.route) (key_of P best.route) less e))
          | inr new ↦ λ e. ap (key_of P) new
        ];
      }

  replaces_tied : (best offer : Best) (difference : Difference) → IsBestOf P IsMet best → IsFresh P offer →
      compare_keys (key_of P offer.route) (key_of P best.route) ≡ Less → IsBestOf P (More IsMet offer.route) (with_tie offer difference)
  replaces_tied best offer difference q fresh better = record {
    held = inr refl;
    lone = fresh.lone;
    unbeaten = λ c m. elim m [
      | inl old ↦ unbeaten_on (key_of P c) (key_of P offer.route) (key_of P best.route) better (q.unbeaten c old)
      | inr new ↦ irreflexive (key_of P c) (key_of P offer.route) (ap (key_of P) new)
    ];
    same = λ untied. absurd (cc);
  }

  one_best : (known : Option Best) (best : Best) → known ≡ Some best → IsBestOf P IsMet best → KnowsBest P IsMet known
  one_best known best e q = record {
    none = λ none. absurd (cc);
    some = λ other f. (let same : best ≡ other = cc in subst (IsBestOf P IsMet) same q);
  }

knows_one : (P : Problem) (IsMet : Route → Type 0) (best : Best) → IsBestOf P IsMet best → KnowsBest P IsMet (Some best)
knows_one P IsMet best q = one_best P IsMet (Some best) best refl q

knows_replaced : (P : Problem) (IsMet : Route → Type 0) (best offer : Best) (r : Rank) → IsBestOf P IsMet best → IsFresh P offer →
    Means (key_of P offer.route) (key_of P best.route) r → KnowsBest P (More IsMet offer.route) (after_put (Some best) (replaced r best offer))
knows_replaced P IsMet best offer rank.Better q fresh m = knows_one P (More IsMet offer.route) offer (replaces P IsMet best offer q fresh m)
knows_replaced P IsMet best offer (rank.TiedBetter difference) q fresh m =
    knows_one P (More IsMet offer.route) (with_tie offer (joined best.tied difference))
    (replaces_tied P IsMet best offer (joined best.tied difference) q fresh m.1)
knows_replaced P IsMet best offer (rank.TiedWorse difference) q fresh m = by (told best.tied difference) refl
  where
    by : (b : Bool) → told best.tied difference ≡ b →
        KnowsBest P (More IsMet offer.route) (after_put (Some best) (if b then None else Some (with_tie best difference)))
    by false e = knows_one P (More IsMet offer.route) (with_tie best difference)
        (tells_tie P IsMet best offer difference q (not_less (key_of P offer.route) (key_of P best.route) m.1))
    by true e = knows_one P (More IsMet offer.route) best
        (stays P IsMet best offer q (not_less (key_of P offer.route) (key_of P best.route) m.1)
        (λ untied. (let none = ap (λ (o : Option Difference). told o difference) untied in absurd (cc))))
knows_replaced P IsMet best offer rank.Equal q fresh m = knows_one P (More IsMet offer.route) best
    (stays P IsMet best offer q (irreflexive (key_of P offer.route) (key_of P best.route) m) (λ untied e. m))
knows_replaced P IsMet best offer rank.Worse q fresh m = knows_one P (More IsMet offer.route) best
    (stays P IsMet best offer q (weakly_worse (key_of P offer.route) (key_of P best.route) m) (λ untied e. absurd (cc)))

-- the best offer of a router without a label, once there is one more
pub knows_more : (P : Problem) (IsMet : Route → Type 0) (known : Option Best) (offer : Best) → IsFresh P offer → KnowsBest P IsMet known →
    KnowsBest P (More IsMet offer.route) (after_put known (better_than None known offer))
knows_more P IsMet None offer fresh k = knows_one P (More IsMet offer.route) offer (record {
  held = inr refl;
  lone = fresh.lone;
  unbeaten = λ c m. elim m [
    | inl old ↦ absurd (k.none refl c old)
    | inr new ↦ irreflexive (key_of P c) (key_of P offer.route) (ap (key_of P) new)
  ];
  same = λ untied c m. elim m [ inl old ↦ absurd (k.none refl c old) | inr new ↦ λ e. ap (key_of P) new ];
})
knows_more P IsMet (Some best) offer fresh k =
    let q = k.some best refl in
    knows_replaced P IsMet best offer (rank_of offer best) q fresh (means P offer best fresh.lone q.lone)

-- ---- a settled router

-- the label of a settled router stays best, if the rank of a further candidate does not beat it
pub holds_more : (P : Problem) (tied tied' : Bool) (IsMet : Route → Type 0) (route other : Route) → HoldsBest P tied IsMet route →
    (tied' ≡ false → tied ≡ false) → compare_keys (key_of P other) (key_of P route) ≢ Less →
    (tied' ≡ false → compare_weak (key_of P other) (key_of P route) ≡ Equal → key_of P other ≡ key_of P route) →
    HoldsBest P tied' (More IsMet other) route
holds_more P tied tied' IsMet route other h kept not same = record {
  held = inl h.held;
  unbeaten = λ c m. elim m [
    | inl old ↦ h.unbeaten c old
    | inr new ↦ subst (λ (r : Route). compare_keys (key_of P r) (key_of P route) ≢ Less) (sym new) not
  ];
  same = λ untied c m. elim m [
    | inl old ↦ h.same (kept untied) c old
    | inr new ↦ subst (λ (r : Route). compare_weak (key_of P r) (key_of P route) ≡ Equal → key_of P r ≡ key_of P route) (sym new) (same untied)
  ];
}

-- the same routes are met
pub knows_by : (P : Problem) (A B : Route → Type 0) (known : Option Best) → ((c : Route) → A c → B c) → ((c : Route) → B c → A c) → KnowsBest P A known →
    KnowsBest P B known
knows_by P A B known there back k = record {
  none = λ e c m. k.none e c (back c m);
  some = λ best e. (let q = k.some best e in record {
    held = there best.route q.held;
    lone = q.lone;
    unbeaten = λ c m. q.unbeaten c (back c m);
    same = λ untied c m. q.same untied c (back c m);
  });
}

pub holds_by : (P : Problem) (tied tied' : Bool) (A B : Route → Type 0) (route : Route) → ((c : Route) → A c → B c) → ((c : Route) → B c → A c) →
    (tied' ≡ false → tied ≡ false) → HoldsBest P tied A route → HoldsBest P tied' B route
holds_by P tied tied' A B route there back kept h = record {
  held = there route h.held;
  unbeaten = λ c m. h.unbeaten c (back c m);
  same = λ untied c m. h.same (kept untied) c (back c m);
}
