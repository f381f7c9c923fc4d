use Rattle.std.proofs.Common.{◌<◌, ◌++◌, ◌∙◌, ℕ, List, Vec, length, map, All, sym, ap, subst, string_bytes}
use Rattle.std.specs.declared.alloc.Global.{Global}
use Rattle.cfg_ast.specs.printing.Printed.{lines_text}
use Rattle.cut_certificate.specs.declared.certificate.Split.{Split}
use Rattle.cut_certificate.specs.Blocks.{first_blocks}
use Rattle.cut_certificate.specs.Printed.{split_line, named_group_line}
use Rattle.cut_certificate.proofs.Written.{splits_known, groups_known, text_written}
use Rattle.cut_certificate.proofs.printing.print_certificate.Goals as goal

pub put_splits-requires-clause-places : goal.put_splits-requires-clause-places
put_splits-requires-clause-places c =
    subst (λ (ss : List Split). All (λ (s : Split). s.edge < length c.args.graph.now.edges) ss) (sym c.as_slice-2.ensures)
    (splits_known c.args.graph.now c.args.c.now.splits (first_blocks c.args.graph.now) c.requires.accepted.blocks c.requires.accepted.split)

pub put_groups-requires : goal.put_groups-requires
put_groups-requires c =
    subst (λ (ns : List (List ℕ)). All (All (λ router. router < length ns)) c.as_slice-4.result.now) (sym c.as_slice-3.ensures)
    (subst (λ (gs : List (List ℕ)). All (All (λ router. router < length c.args.names.now)) gs) (sym c.as_slice-4.ensures)
    (groups_known c.args.graph.now c.args.c.now c.args.names.now c.requires.names c.requires.accepted))

pub returns : goal.returns
returns c =
    let edges = c.args.graph.now.edges in
    let names = c.args.names.now in
    let cert = c.args.c.now in
    ap (λ (v : Vec ℕ Global). v.items) c.into_bytes.ensures.value
    ∙ text_written edges names cert (string_bytes c.new-text.result) (string_bytes c.push_str.new.self) (string_bytes c.put_splits.new.text)
    (string_bytes c.put_groups.new.text) (string_bytes c.push_str-2.new.self) c.new-text.ensures.bytes c.in_ok-push_str.ensures.bytes
    (c.in_ok-put_splits.ensures ∙ ap (λ (ns : List (List ℕ)).
    string_bytes c.push_str.new.self ++ lines_text (map (split_line edges ns) c.as_slice-2.result.now)) c.as_slice.ensures
    ∙ ap (λ (ss : List Split). string_bytes c.push_str.new.self ++ lines_text (map (split_line edges names) ss)) c.as_slice-2.ensures)
    (c.in_ok-put_groups.ensures ∙ ap (λ (ns : List (List ℕ)).
    string_bytes c.put_splits.new.text ++ lines_text (map (named_group_line ns) c.as_slice-4.result.now)) c.as_slice-3.ensures
    ∙ ap (λ (gs : List (List ℕ)). string_bytes c.put_splits.new.text ++ lines_text (map (named_group_line names) gs)) c.as_slice-4.ensures)
    c.in_ok-push_str-2.ensures.bytes
