-- Routers whose maps can be printed when they are written out for a prefix.
use Rattle.std.specs.Prelude.{◌≡◌, []}
use Rattle.cfg_ast.specs.meaning.PolicyFaults.{undefined_lists_of, wide_deletions_of}
use Rattle.cfg_ast.specs.printing.WellFormed.{IsWellFormedRouter}
use Rattle.cfg_ast.specs.declared.network.Router.{Router}

-- the router names only lists that it defines, and its deletion lists have one community a line
pub record HasPrintableMaps (router : Router) : Type 0 where
  pub well_formed : IsWellFormedRouter router
  pub defined : undefined_lists_of router ≡ []
  pub single : wide_deletions_of router ≡ []
