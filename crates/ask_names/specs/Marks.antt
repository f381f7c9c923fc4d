-- Routers as marks, one for each.
use Rattle.std.specs.Prelude.{◌≡◌, ℕ, Bool, false, not, ◌&&◌, List, length, map, filter, slice_index_or}
use Rattle.std.specs.List.{range_with_len}
use Rattle.ask_words.specs.declared.request.AskedOf.{AskedOf}
use Rattle.ask_words.specs.declared.request.AskedOf.TheVariants as asked
use Rattle.ask_words.specs.declared.request.Routers.{Routers}
use Rattle.ask_words.specs.declared.request.Task.{Task}
use Rattle.ask_words.specs.declared.request.Task.TheVariants as task
use Rattle.ask_names.specs.declared.named.Named.{Named}
use Rattle.ask_names.specs.Routers.{is_named}

-- for each router, whether it is named
abbrev pub named_marks : List (List ℕ) → Routers → List Bool
named_marks names of = map (is_named of) names

-- the marked routers that are not down
unfoldable pub marked_routers : List Bool → List Bool → List ℕ
marked_routers marks down = filter (λ u. slice_index_or marks u false && not (slice_index_or down u false)) (range_with_len 0 (length marks))

-- the marks of the routers that a question names
abbrev pub AreMarksFor : List (List ℕ) → AskedOf → Named → Type 0
AreMarksFor names (asked.Route of) named = named.of.items ≡ named_marks names of
AreMarksFor names (asked.Isolated of) named = named.of.items ≡ named_marks names of
AreMarksFor names (asked.Hops most of) named = named.of.items ≡ named_marks names of
AreMarksFor names (asked.Through way of) named = (named.of.items ≡ named_marks names of) × (named.way.items ≡ named_marks names way)
AreMarksFor names (asked.Avoids way of) named = (named.of.items ≡ named_marks names of) × (named.way.items ≡ named_marks names way)
AreMarksFor names (asked.Carries community of) named = named.of.items ≡ named_marks names of
AreMarksFor names (asked.Lacks community of) named = named.of.items ≡ named_marks names of

-- the marks of the routers that the question of a task names, if it asks one
abbrev pub AreMarksIn : List (List ℕ) → Task → Named → Type 0
AreMarksIn names task.Count named = Unit {0}
AreMarksIn names task.Solutions named = Unit {0}
AreMarksIn names task.Forwards named = Unit {0}
AreMarksIn names (task.Answer asks) named = AreMarksFor names asks named
AreMarksIn names (task.FailingLinks asks) named = AreMarksFor names asks named
AreMarksIn names (task.FailingRouters asks) named = AreMarksFor names asks named
