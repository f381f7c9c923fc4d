-- A neighbour changed in its place.
use Rattle.std.specs.Prelude.{ℕ, List, Result, Ok, slice_index_or, slice_set}
use Rattle.cfg_ast.specs.declared.bgp.Neighbor.{Neighbor}
use Rattle.cfg_ast.specs.declared.items.RouterItem.{RouterItem}
use Rattle.cfg_ast.specs.declared.refusal.ReadRefusal.{ReadRefusal}
use Rattle.cfg_ast.specs.text.Stanzas.{new_neighbor, set_neighbor}
use Rattle.cfg_ast.specs.text.Steps.{◌>>=◌}

abbrev pub change_at : ℕ → RouterItem → List Neighbor → ℕ → Result (List Neighbor) ReadRefusal
change_at n said peers place = set_neighbor n said (slice_index_or peers place (new_neighbor 0 0 0)) >>= (λ (q : Neighbor). Ok (slice_set peers place q))
