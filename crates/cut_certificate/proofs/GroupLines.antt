-- A line that begins with `group`.
use Rattle.std.proofs.Common.{◌≡◌, ℕ, Bool, true, false, cond, List, [], ◌∷◌, refl, Option, Some, None, codes}
use Rattle.std.specs.Prelude.{bytes_eq}
use Rattle.std.specs.List.{list_all}
use Rattle.base_kit.specs.declared.act_graph.Edge.{Edge}
use Rattle.cfg_ast.specs.text.Words.{is_router_name}
use Rattle.cut_certificate.specs.Forms.{group_form, certificate_line_of}
use Rattle.cut_certificate.specs.Forms.CertificateLine.{Group}
use Rattle.cut_certificate.specs.Texts.{Standing, with_saying, with_line}

-- it needs no edges
no_edges : (edges : List Edge) (routers : List ℕ → Option ℕ) (s : Standing) (words : List (List ℕ))
    → with_saying edges routers s (group_form words) ≡ with_saying [] routers s (group_form words)
no_edges edges routers s [] = refl
no_edges edges routers s (name ∷ names) = by (list_all is_router_name (name ∷ names))
  where
    by : (b : Bool) → with_saying edges routers s (cond b (Some (Group (name ∷ names))) None)
        ≡ with_saying [] routers s (cond b (Some (Group (name ∷ names))) None)
    by true = refl
    by false = refl

pub group_line : (edges : List Edge) (routers : List ℕ → Option ℕ) (s : Standing) (line : List (List ℕ)) (word : List ℕ) (words : List (List ℕ))
    → line ≡ word ∷ words → bytes_eq word (codes "bonsai") ≡ false → bytes_eq word (codes "split") ≡ false → bytes_eq word (codes "group") ≡ true
    → with_line edges routers s line ≡ with_saying [] routers s (group_form words)
unfolding certificate_line_of
group_line edges routers s line word words is head split group = rw (is, head, split, group) (no_edges edges routers s words)
