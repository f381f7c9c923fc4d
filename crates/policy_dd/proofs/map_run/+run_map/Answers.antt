use Rattle.std.proofs.Common.{rules, ◌≡◌, ◌++◌, [], List, ℕ, sym, subst}
use Rattle.std.specs.List.{AllByRecursion}
use Rattle.std.proofs.lemmas.List.{take-append-drop}
use Rattle.route_maps.specs.declared.plain.PlainEntry.{PlainEntry}
use Rattle.route_maps.specs.Within.{IsEntryWithin}
use Rattle.dd_core.proofs.ShownLemmas.{grows_refl, grows_trans}
use Rattle.policy_dd.specs.MapRun.{IsMapFn}
use Rattle.policy_dd.proofs.MatchLemmas.{inside_kept}
use Rattle.policy_dd.proofs.DecideLemmas.{all_drop, no_items, one_item}
use Rattle.policy_dd.proofs.EitherLemmas.{run_append}
use Rattle.policy_dd.proofs.RunLemmas.{map_inside_kept, run_pushed}
use Rattle.policy_dd.proofs.map_run.+run_map.Goals as goal

pub push_entry-requires-clause-inside : goal.push_entry-requires-clause-inside
push_entry-requires-clause-inside t c = (c.no_entries-none.ensures c.args.carried.now).inside

pub run_map-requires-in_default : goal.run_map-requires-in_default
run_map-requires-in_default t c =
    let known = subst (λ (l : List PlainEntry). AllByRecursion (IsEntryWithin c.args.store.now.universe) l) (sym c.split_at.ensures.back)
    (all_drop (IsEntryWithin c.args.store.now.universe) c.args.entries.now _ c.requires.known) in (
      search rules,
      (
        inside_kept _ _ _ c.in_ok-first-in_default.ensures.grows c.requires.inside,
        subst (λ (u : List ℕ). AllByRecursion (IsEntryWithin u) c.split_at.result.1.now) (sym c.in_ok-first-in_default.ensures.grows.universe) known,
      ),
    )

pub either-requires-clause-first_inside : goal.either-requires-clause-first_inside
either-requires-clause-first_inside t c = map_inside_kept _ _ _ c.in_ok-last-in_default.ensures.grows c.in_ok-first-in_default.ensures.run.inside

pub returns-in-empty-clause-run : goal.returns-in-empty-clause-run
returns-in-empty-clause-run t c = rw (no_items c.args.entries.now c.in-empty.len_below) (c.no_entries.ensures c.args.carried.now)

pub returns-in_ok-m-in-len1-clause-run : goal.returns-in_ok-m-in-len1-clause-run
returns-in_ok-m-in-len1-clause-run t c =
    rw (one_item c.args.entries.now c.entry-item.result c.in-len1.len_at_least c.in-len1.len_below c.entry-item.is)
    (run_pushed c.args.store.now c.args.store.now c.push_entry.new.store c.args.carried.now [] c.entry-item.result c.no_entries-none.result c.in_ok-m-in-len1.m
    (grows_refl c.args.store.now) c.requires.inside (c.no_entries-none.ensures c.args.carried.now) c.in_ok-m-in-len1.ensures.pushed)

pub returns-in_ok-m-in_default-clause-run : goal.returns-in_ok-m-in_default-clause-run
returns-in_ok-m-in_default-clause-run t c =
    let e : c.split_at.result.0.now ++ c.split_at.result.1.now ≡ c.args.entries.now =
    rw (c.split_at.ensures.front, c.split_at.ensures.back) (take-append-drop _ c.args.entries.now) in
    subst (λ (l : List PlainEntry). IsMapFn c.args.store.now c.either.new.store c.args.carried.now l c.in_ok-m-in_default.m) e
    (run_append c.args.store.now _ _ c.either.new.store c.args.carried.now c.split_at.result.0.now c.split_at.result.1.now c.in_ok-first-in_default.first
    c.in_ok-last-in_default.last c.in_ok-m-in_default.m c.in_ok-first-in_default.ensures.grows c.in_ok-last-in_default.ensures.grows
    c.in_ok-m-in_default.ensures.grows c.requires.inside c.in_ok-first-in_default.ensures.run c.in_ok-last-in_default.ensures.run
    c.in_ok-m-in_default.ensures.either)

pub returns-in_err-last-in_default-clause-grows : goal.returns-in_err-last-in_default-clause-grows
returns-in_err-last-in_default-clause-grows t c = grows_trans _ _ _ c.in_ok-first-in_default.ensures.grows c.in_err-last-in_default.ensures.grows

pub returns-in_err-m-in_default-clause-grows : goal.returns-in_err-m-in_default-clause-grows
returns-in_err-m-in_default-clause-grows t c = grows_trans _ _ _
    (grows_trans _ _ _ c.in_ok-first-in_default.ensures.grows c.in_ok-last-in_default.ensures.grows) c.in_err-m-in_default.ensures.grows

pub returns-in_ok-m-in_default-clause-grows : goal.returns-in_ok-m-in_default-clause-grows
returns-in_ok-m-in_default-clause-grows t c = grows_trans _ _ _
    (grows_trans _ _ _ c.in_ok-first-in_default.ensures.grows c.in_ok-last-in_default.ensures.grows) c.in_ok-m-in_default.ensures.grows
