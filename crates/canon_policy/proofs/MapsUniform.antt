-- The import through maps over a universe is uniform over it.
use Rattle.std.proofs.Common.{◌≡◌, ℕ, ◌+◌, Bool, true, false, not, ◌&&◌, ◌||◌, nat_eq, List, [], ◌∷◌, filter, Option, Some, None, refl, sym, ◌∙◌, ap, subst}
use Rattle.std.specs.Prelude.{if◌then◌else◌, IfSome}
use Rattle.std.specs.List.{AllByRecursion}
use Rattle.std.specs.Option.{option_map_or, unwrap_or}
use Rattle.base_kit.specs.Sets.{has, with_number, IsAscending}
use Rattle.base_kit.proofs.SetFacts.{same_number, has-with_number, has-filter}
use Rattle.cfg_ast.specs.declared.policy.Change.{Change}
use Rattle.cfg_ast.specs.declared.policy.Change.TheVariants.{Clear, Replace, Append}
use Rattle.cfg_ast.specs.printing.WellFormed.{IsWellFormedChange}
use Rattle.dd_core.specs.Sets.{has_others}
use Rattle.policy_dd.specs.Deletion.{put_by_change, keeps_rest}
use Rattle.policy_dd.specs.Import.{there_after, there_sent, others_sent, second_deciding, IsGivenByEntries, GivenBy, IsEntryFit, AreFit}
use Rattle.policy_dd.specs.MapRun.{permits_it, puts, leaves_it, leaves_rest}
use Rattle.policy_dd.specs.Matches.{entry_by, first_of, decided, IsSeenAs}
use Rattle.policy_dd.proofs.DeletionLemmas.{spares_outside}
use Rattle.policy_dd.proofs.ImportLemmas.{same_first, found_fit, import_seen, all_fit}
use Rattle.policy_dd.proofs.RunLemmas.{named_within}
use Rattle.policy_dd.proofs.MatchLemmas.{within_each}
use Rattle.route_maps.specs.declared.plain.Imported.{Imported}
use Rattle.route_maps.specs.declared.plain.Plain.{Plain}
use Rattle.route_maps.specs.declared.plain.PlainEntry.{PlainEntry}
use Rattle.route_maps.specs.Maps.{import_of}
use Rattle.route_maps.specs.Printable.{IsPrintableEntry, IsPrintable}
use Rattle.route_maps.specs.Within.{IsMapWithin}
use Rattle.canon_policy.specs.Functions.{as_set, on_sets, outside_of, carries, keeps}
use Rattle.canon_policy.specs.Hanging.{SameOn}
use Rattle.canon_policy.specs.Uniform.{HaveOneTrace, IsUniform}
use Rattle.canon_policy.proofs.Least.{equal}
use Rattle.canon_policy.proofs.Outside.{outside_same, others_put}
use Rattle.canon_policy.proofs.SameSets.{and_both, any_in, ascending-as_set, has-as_set, named, named_same, same_back, with_same_on}
use Rattle.canon_policy.proofs.Values.{same_truth, any_same, outside_not, none_others}
use Rattle.canon_policy.proofs.Least.{has_in}

-- the communities that a printable map puts in ascend
change_ascends : (change : Option Change) → IfSome change IsWellFormedChange → IsAscending (put_by_change change)
change_ascends None is = tt
change_ascends (Some Clear) is = tt
change_ascends (Some (Replace by)) is = is.ascending
change_ascends (Some (Append more)) is = is.ascending

changes_ascend : (entries : List PlainEntry) → AllByRecursion IsPrintableEntry entries
    → AllByRecursion (λ (e : PlainEntry). IsAscending (put_by_change e.change)) entries
changes_ascend [] all = tt
changes_ascend (e ∷ es) all = (change_ascends e.change all.0.change, changes_ascend es all.1)

pub map_fits : (universe : List ℕ) (map : Plain) → IsPrintable map → IsMapWithin universe map → AreFit universe map.entries
map_fits universe map printable within = all_fit universe map.entries within (changes_ascend map.entries printable.entries)

module _ (universe : List ℕ) where
  -- a set of which this is known
  abbrev seen_set : (ℕ → Bool) → Bool → List ℕ
  seen_set there others = if others then with_number (outside_of universe) (named universe (filter there universe)) else named universe (filter there universe)

  inner_has : (there : ℕ → Bool) (c : ℕ) → has universe c ≡ true → there c ≡ has (named universe (filter there universe)) c
  inner_has there c known =
      sym ((named_same universe (filter there universe)).same c known ∙ has-filter there universe c ∙ ap (λ b. there c && b) known ∙ by (there c))
    where
      by : (b : Bool) → b && true ≡ b
      by true = refl
      by false = refl

  seen : (there : ℕ → Bool) (others : Bool) → IsSeenAs universe (seen_set there others) there others
  seen there true = record {
    there_is = λ c known.
        inner_has there c known
        ∙ sym ((outside_same universe (outside_of universe) (outside_not universe) (named universe (filter there universe))).same c known);
    others_is = sym (others_put universe (outside_of universe) (outside_not universe) (named universe (filter there universe)));
  }
  seen there false = record { there_is = inner_has there; others_is = sym (none_others universe (filter there universe)) }

  one_first : (there there' : ℕ → Bool) (others : Bool) → ((c : ℕ) → has universe c ≡ true → there c ≡ there' c) → (entries : List PlainEntry)
      → AreFit universe entries
      → first_of universe entries there others ≡ first_of universe entries there' others
  one_first there there' others same entries fit =
      let is = seen there others in
      same_first universe (seen_set there others) there others entries is fit
      ∙ sym (same_first universe (seen_set there others) there' others entries
      (record { there_is = λ c known. sym (same c known) ∙ is.there_is c known; others_is = is.others_is }) fit)

  module _ (out : List PlainEntry) (sends : Bool) (into : List PlainEntry) (fit : AreFit universe out) (fit' : AreFit universe into) where
    abbrev first : List ℕ → Option PlainEntry
    first set = first_of universe out (has set) (has_others universe set)

    abbrev second : List ℕ → Option PlainEntry
    second set = second_deciding universe out sends into (has set) (has_others universe set)

    same_one : (a b : List ℕ) → HaveOneTrace universe a b → first a ≡ first b
    same_one a b trace =
        one_first (has a) (has b) (has_others universe a) trace.named.same out fit ∙ ap (λ o. first_of universe out (has b) o) trace.others

    same_two : (a b : List ℕ) → HaveOneTrace universe a b → second a ≡ second b
    same_two a b trace =
        let one = same_one a b trace in
        let others = trace.others in
        one_first (there_sent sends (first a) (has a)) (there_sent sends (first a) (has b)) (others_sent sends (first a) (has_others universe a))
        (λ c known. ap (λ h. sends && (decided (puts c) (first a) || (h && decided (leaves_it c) (first a)))) (trace.named.same c known)) into fit'
        ∙ (λ i. first_of universe into (there_sent sends (one i) (has b)) (others_sent sends (one i) (others i)))

    -- what the entry that decides does to a community that no line names
    abbrev Fits : Option PlainEntry → Type 0
    Fits found = (e : PlainEntry) → found ≡ Some e → IsEntryFit universe e

    first_fits : (set : List ℕ) → Fits (first set)
    first_fits set e is = found_fit universe (entry_by universe (has set) (has_others universe set)) out e fit is

    second_fits : (set : List ℕ) → Fits (second set)
    second_fits set e is =
        found_fit universe (entry_by universe (there_sent sends (first set) (has set)) (others_sent sends (first set) (has_others universe set))) into e fit' is

    puts_none : (c : ℕ) → has universe c ≡ false → (found : Option PlainEntry) → Fits found → decided (puts c) found ≡ false
    puts_none c none None fits = refl
    puts_none c none (Some e) fits = by (has (put_by_change e.change) c) refl e.permit
      where
        by : (b : Bool) → has (put_by_change e.change) c ≡ b → (p : Bool) → p && has (put_by_change e.change) c ≡ false
        by true there p =
            let known = within_each universe (put_by_change e.change) c (named_within universe e.change (fits e refl).within.change) there in
            absurd (let wrong : true ≡ false = sym known ∙ none in cc)
        by false there true = there
        by false there false = refl

    leaves_same : (c : ℕ) → has universe c ≡ false → (found : Option PlainEntry) → Fits found → decided (leaves_it c) found ≡ decided leaves_rest found
    leaves_same c none None fits = refl
    leaves_same c none (Some e) fits =
        ap (λ b. e.permit && (keeps_rest e.change && b)) (spares_outside universe c e.delete none (fits e refl).within.delete)

    abbrev left_by : Option PlainEntry → Option PlainEntry → Bool → Bool
    left_by one two h = (sends && (h && decided leaves_rest one)) && decided leaves_rest two

    outside_after : (c : ℕ) → has universe c ≡ false → (one two : Option PlainEntry) → Fits one → Fits two → (there : ℕ → Bool)
        → there_after two (there_sent sends one there) c ≡ left_by one two (there c)
    outside_after c none one two fits fits' there =
        let p = puts_none c none one fits in
        let p' = puts_none c none two fits' in
        let l = leaves_same c none one fits in
        let l' = leaves_same c none two fits' in
        λ i. p' i || ((sends && (p i || (there c && l i))) && l' i)

    module _ (f : List ℕ → Option Imported) (given : (set : List ℕ) → GivenBy sends (first (as_set set)) (second (as_set set)) (has (as_set set)) (f set)) where
      both : (one two : Option PlainEntry) (there : ℕ → Bool) (import : Imported) → IsGivenByEntries sends one two there import
          → decided permits_it one && decided permits_it two ≡ true
      both one two there import is = rw (is.first, is.second) refl

      lp_by : (one two : Option PlainEntry) (there there' : ℕ → Bool) (o o' : Option Imported) → GivenBy sends one two there o → GivenBy sends one two there' o'
          → option_map_or (λ (i : Imported). i.lp + 1) o 0 ≡ option_map_or (λ (i : Imported). i.lp + 1) o' 0
      lp_by one two there there' None None g g' = refl
      lp_by one two there there' None (Some j) g g' = absurd (let wrong : true ≡ false = sym (both one two there' j g') ∙ g in cc)
      lp_by one two there there' (Some i) None g g' = absurd (let wrong : true ≡ false = sym (both one two there i g) ∙ g' in cc)
      lp_by one None there there' (Some i) (Some j) g g' = absurd (let wrong : false ≡ true = g.second in cc)
      lp_by one (Some e) there there' (Some i) (Some j) g g' =
          let a = equal (unwrap_or e.lp 100) i.lp (and_both e.permit (nat_eq (unwrap_or e.lp 100) i.lp) g.lp).1 in
          let b = equal (unwrap_or e.lp 100) j.lp (and_both e.permit (nat_eq (unwrap_or e.lp 100) j.lp) g'.lp).1 in
          ap (λ n. n + 1) (sym a ∙ b)

      adds_by : (one two : Option PlainEntry) (there there' : ℕ → Bool) (o o' : Option Imported) → GivenBy sends one two there o
          → GivenBy sends one two there' o'
          → option_map_or (λ (i : Imported). i.adds + 1) o 0 ≡ option_map_or (λ (i : Imported). i.adds + 1) o' 0
      adds_by one two there there' None None g g' = refl
      adds_by one two there there' None (Some j) g g' = absurd (let wrong : true ≡ false = sym (both one two there' j g') ∙ g in cc)
      adds_by one two there there' (Some i) None g g' = absurd (let wrong : true ≡ false = sym (both one two there i g) ∙ g' in cc)
      adds_by None two there there' (Some i) (Some j) g g' = absurd (let wrong : false ≡ true = g.first in cc)
      adds_by (Some e) two there there' (Some i) (Some j) g g' =
          let a = equal e.adds i.adds (and_both e.permit (nat_eq e.adds i.adds) g.adds).1 in
          let b = equal e.adds j.adds (and_both e.permit (nat_eq e.adds j.adds) g'.adds).1 in
          ap (λ n. n + 1) (sym a ∙ b)

      carried_by : (one two : Option PlainEntry) (there there' : ℕ → Bool) (c d : ℕ) (o o' : Option Imported) → GivenBy sends one two there o
          → GivenBy sends one two there' o' → there_after two (there_sent sends one there) c ≡ there_after two (there_sent sends one there') d
          → option_map_or (λ (i : Imported). has i.comms c) o false ≡ option_map_or (λ (i : Imported). has i.comms d) o' false
      carried_by one two there there' c d None None g g' same = refl
      carried_by one two there there' c d None (Some j) g g' same = absurd (let wrong : true ≡ false = sym (both one two there' j g') ∙ g in cc)
      carried_by one two there there' c d (Some i) None g g' same = absurd (let wrong : true ≡ false = sym (both one two there i g) ∙ g' in cc)
      carried_by one two there there' c d (Some i) (Some j) g g' same = g.comms c ∙ same ∙ sym (g'.comms d)

      as_sets : (a b : List ℕ) → HaveOneTrace universe a b → HaveOneTrace universe (as_set a) (as_set b)
      as_sets a b trace = record {
        named = record { same = λ c known. has-as_set a c ∙ trace.named.same c known ∙ sym (has-as_set b c) };
        others = as_set_others a ∙ trace.others ∙ sym (as_set_others b);
      }
        where
          as_set_others : (a : List ℕ) → has_others universe (as_set a) ≡ has_others universe a
          as_set_others a =
              same_truth (has_others universe (as_set a)) (has_others universe a) (any_same (λ c. not (has universe c)) (as_set a) a (has-as_set a))
              (any_same (λ c. not (has universe c)) a (as_set a) (λ c. sym (has-as_set a c)))

      -- the second set's import, by the entries that decide for the first
      moved : (a b : List ℕ) → HaveOneTrace universe a b → GivenBy sends (first (as_set a)) (second (as_set a)) (has (as_set b)) (f b)
      moved a b trace =
          let one = same_one (as_set a) (as_set b) (as_sets a b trace) in
          let two = same_two (as_set a) (as_set b) (as_sets a b trace) in
          subst (λ (o : Option PlainEntry). GivenBy sends o (second (as_set a)) (has (as_set b)) (f b)) (sym one)
          (subst (λ (o : Option PlainEntry). GivenBy sends (first (as_set b)) o (has (as_set b)) (f b)) (sym two) (given b))

      -- a community outside that both sets have is in both results or in none
      outside_both : (a b : List ℕ) (c d : ℕ) → HaveOneTrace universe a b → has universe c ≡ false → has universe d ≡ false → has a c ≡ has b d
          → carries f c a ≡ carries f d b
      outside_both a b c d trace none none' there =
          carried_by (first (as_set a)) (second (as_set a)) (has (as_set a)) (has (as_set b)) c d (f a) (f b) (given a) (moved a b trace)
          (outside_after c none (first (as_set a)) (second (as_set a)) (first_fits (as_set a)) (second_fits (as_set a)) (has (as_set a))
          ∙ ap (left_by (first (as_set a)) (second (as_set a))) (has-as_set a c ∙ there ∙ sym (has-as_set b d))
          ∙ sym (outside_after d none' (first (as_set a)) (second (as_set a)) (first_fits (as_set a)) (second_fits (as_set a)) (has (as_set b))))

      abbrev put : List ℕ → List ℕ
      put set = with_number (outside_of universe) set

      put_there : (set : List ℕ) → has (put set) (outside_of universe) ≡ true
      put_there set = has-with_number (outside_of universe) set (outside_of universe) ∙ rw (same_number (outside_of universe) (outside_of universe) refl) refl

      -- one that the set lacks is not in the result
      outside_lacks : (set : List ℕ) (c : ℕ) → has universe c ≡ false → has set c ≡ false → carries f c set ≡ false
      outside_lacks set c none lacks = by (f set) (given set)
        where
          nothing : (one two : Option PlainEntry) → left_by one two false ≡ false
          nothing one two = off sends (decided leaves_rest two)
            where
              off : (s l : Bool) → (s && false) && l ≡ false
              off true l = refl
              off false l = refl

          by : (o : Option Imported) → GivenBy sends (first (as_set set)) (second (as_set set)) (has (as_set set)) o
              → option_map_or (λ (i : Imported). has i.comms c) o false ≡ false
          by None g = refl
          by (Some i) g =
              g.comms c
              ∙ outside_after c none (first (as_set set)) (second (as_set set)) (first_fits (as_set set)) (second_fits (as_set set)) (has (as_set set))
              ∙ ap (left_by (first (as_set set)) (second (as_set set))) (has-as_set set c ∙ lacks)
              ∙ nothing (first (as_set set)) (second (as_set set))

      put_trace : (set : List ℕ) (c : ℕ) → has universe c ≡ false → has set c ≡ true → HaveOneTrace universe set (put set)
      put_trace set c none there = record {
        named = same_back universe (put set) set (outside_same universe (outside_of universe) (outside_not universe) set);
        others = any_in (λ d. not (has universe d)) set c (has_in set c there) (rw none refl)
            ∙ sym (others_put universe (outside_of universe) (outside_not universe) set);
      }

      puts_trace : (a b : List ℕ) → SameOn universe a b → HaveOneTrace universe (put a) (put b)
      puts_trace a b same = record {
        named = with_same_on universe a b (outside_of universe) same;
        others = others_put universe (outside_of universe) (outside_not universe) a ∙ sym (others_put universe (outside_of universe) (outside_not universe) b);
      }

      pub uniform : ((set : List ℕ) (import : Imported) → f set ≡ Some import → IsAscending import.comms) → IsUniform universe f
      uniform ascending = record {
        lp = λ a b trace. lp_by (first (as_set a)) (second (as_set a)) (has (as_set a)) (has (as_set b)) (f a) (f b) (given a) (moved a b trace);
        adds = λ a b trace. adds_by (first (as_set a)) (second (as_set a)) (has (as_set a)) (has (as_set b)) (f a) (f b) (given a) (moved a b trace);
        carried = λ c known a b trace.
            carried_by (first (as_set a)) (second (as_set a)) (has (as_set a)) (has (as_set b)) c c (f a) (f b) (given a) (moved a b trace)
            (ap (λ h. decided (puts c) (second (as_set a)) ||
            ((sends && (decided (puts c) (first (as_set a)) || (h && decided (leaves_it c) (first (as_set a)))))
            && decided (leaves_it c) (second (as_set a)))) (has-as_set a c ∙ trace.named.same c known ∙ sym (has-as_set b c)));
        kept = record {
          same = λ a b same.
              outside_both (put a) (put b) (outside_of universe) (outside_of universe) (puts_trace a b same) (outside_not universe) (outside_not universe)
              (put_there a ∙ sym (put_there b));
        };
        unnamed = λ set c none. by set c none (has set c) refl;
        ascending = ascending;
      }
        where
          by : (set : List ℕ) (c : ℕ) → has universe c ≡ false → (b : Bool) → has set c ≡ b → carries f c set ≡ b && keeps f universe set
          by set c none true there =
              outside_both set (put set) c (outside_of universe) (put_trace set c none there) none (outside_not universe) (there ∙ sym (put_there set))
          by set c none false there = outside_lacks set c none there

module _ (universe : List ℕ) (out : Plain) (sends : Bool) (into : Plain) (printable : IsPrintable out) (printable' : IsPrintable into)
    (within : IsMapWithin universe out)
    (within' : IsMapWithin universe into) where
  import_given : (set : List ℕ) → GivenBy sends (first universe out.entries sends into.entries (map_fits universe out printable within)
      (map_fits universe into printable' within') (as_set set))
      (second universe out.entries sends into.entries (map_fits universe out printable within) (map_fits universe into printable' within') (as_set set))
      (has (as_set set))
      (on_sets (import_of out sends into) set)
  import_given set =
      import_seen universe (as_set set) out.entries sends into.entries (ascending-as_set set) (map_fits universe out printable within)
      (map_fits universe into printable' within')

  import_ascends : (set : List ℕ) (import : Imported) → on_sets (import_of out sends into) set ≡ Some import → IsAscending import.comms
  import_ascends set import e = by (on_sets (import_of out sends into) set) e (import_given set)
    where
      by : (o : Option Imported) → o ≡ Some import
          → GivenBy sends (first universe out.entries sends into.entries (map_fits universe out printable within) (map_fits universe into printable' within')
          (as_set set))
          (second universe out.entries sends into.entries (map_fits universe out printable within) (map_fits universe into printable' within') (as_set set))
          (has (as_set set)) o
          → IsAscending import.comms
      by None e g = absurd cc
      by (Some i) e g = let same : i ≡ import = cc in rw (← same) g.ascending

  pub import_uniform : IsUniform universe (on_sets (import_of out sends into))
  import_uniform =
      uniform universe out.entries sends into.entries (map_fits universe out printable within) (map_fits universe into printable' within')
      (on_sets (import_of out sends into)) import_given import_ascends
