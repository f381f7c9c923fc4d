-- The fault that decides.
use Rattle.std.proofs.Common.{◌≡◌, ℕ, List, ap, ◌∙◌, Option, Some, None}
use Rattle.cfg_ast.specs.declared.network.Network.{Network}
use Rattle.cfg_ast.specs.meaning.Classes.{classes_of}
use Rattle.cfg_ast.specs.meaning.Topology.{links_of}
use Rattle.ask_words.specs.NameLists.{word_of_lost}
use Rattle.ask_words.specs.declared.request.Lost.{Lost}
use Rattle.ask_words.specs.declared.request.Request.{Request}
use Rattle.ask_names.specs.Networks.{names_of}
use Rattle.ask_names.specs.Routers.{unknown_name, unjoined}
use Rattle.ask_names.specs.Selection.{selected}
use Rattle.ask_names.specs.declared.selection.Span.{Span}
use Rattle.ask_requests.specs.Faults.{link_fault, name_fault, class_fault, request_fault}
use Rattle.ask_requests.specs.declared.fault.Fault.TheVariants.{NoClass, UnknownRouter, NoLink}

module _ (n : Network) (request : Request) where
  pub no_class : selected request.classes (classes_of n) ≡ None → request_fault n request ≡ Some NoClass
  unfolding request_fault
  no_class none = ap (λ (o : Option Span). class_fault o (unknown_name (names_of n) request) (unjoined (names_of n) (links_of n) request.down)) none

  module _ (span : Span) (some : selected request.classes (classes_of n) ≡ Some span) where
    by_names : request_fault n request ≡ name_fault (unknown_name (names_of n) request) (unjoined (names_of n) (links_of n) request.down)
    unfolding request_fault
    by_names = ap (λ (o : Option Span). class_fault o (unknown_name (names_of n) request) (unjoined (names_of n) (links_of n) request.down)) some

    pub unknown : (name : List ℕ) → unknown_name (names_of n) request ≡ Some name → request_fault n request ≡ Some (UnknownRouter name)
    unknown name e = by_names ∙ ap (λ (o : Option (List ℕ)). name_fault o (unjoined (names_of n) (links_of n) request.down)) e

    module _ (known : unknown_name (names_of n) request ≡ None) where
      by_links : request_fault n request ≡ link_fault (unjoined (names_of n) (links_of n) request.down)
      by_links = by_names ∙ ap (λ (o : Option (List ℕ)). name_fault o (unjoined (names_of n) (links_of n) request.down)) known

      pub no_link : (pair : Lost) → unjoined (names_of n) (links_of n) request.down ≡ Some pair → request_fault n request ≡ Some (NoLink (word_of_lost pair))
      no_link pair e = by_links ∙ ap link_fault e

      pub sound : unjoined (names_of n) (links_of n) request.down ≡ None → request_fault n request ≡ None
      sound e = by_links ∙ ap link_fault e
