-- The initial routes that are left.
use Rattle.std.specs.Prelude.{Bool, List, [], ◌∷◌, Option, None, if◌then◌else◌}
use Rattle.srp_core.specs.declared.route.Route.{Route}

-- those of the marked routers are taken away; behind the marks nothing is marked
abbrev pub left_from : List Bool → List (Option Route) → List (Option Route)
left_from marks [] = []
left_from [] (start ∷ starts) = start ∷ left_from [] starts
left_from (mark ∷ marks) (start ∷ starts) = (if mark then None else start) ∷ left_from marks starts
