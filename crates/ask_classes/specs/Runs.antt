-- Where the links of a router begin.
use Rattle.std.specs.Prelude.{ℕ, ◌<◌, ◌≤◌, List, take}
use Rattle.std.specs.List.{AllByRecursion}
use Rattle.cfg_ast.specs.declared.topology.Link.{Link}
use Rattle.ask_classes.specs.declared.link_run.LinkRun.{LinkRun}

-- no lower end of the first so many links is higher, and those before one of them are less
pub record IsLinkRun (links : List Link) (place : ℕ) (run : LinkRun) : Type 0 where
  pub first : run.first ≤ place
  pub upto : AllByRecursion (λ (other : Link). other.low ≤ run.highest) (take place links)
  pub below : AllByRecursion (λ (other : Link). other.low < run.highest) (take run.first links)
