use Rattle.std.proofs.Common.{◌≡◌, ◌++◌, List, [], ℕ, codes, sym, ap, ◌∙◌, append-nil, string_bytes}
use Rattle.cfg_ast.specs.printing.Printed.{line_text, peer_sends_line}
use Rattle.cfg_print.proofs.Grown.{pushed}
use Rattle.cfg_print.proofs.Joined.{sends_text}
use Rattle.cfg_print.proofs.bgp.put_if_sends.Goals as goal

pub returns-then-peer : goal.returns-then-peer
returns-then-peer c =
    let line = line_text (peer_sends_line c.args.peer.now.addr) in
    let is : c.as_str.result.now ≡ line = c.as_str.ensures.value ∙ c.push_str.ensures.bytes
    ∙ ap (λ (xs : List ℕ). xs ++ codes " send-community\n") c.requires.begins ∙ sym (sends_text c.args.peer.now.addr) in
    rw c.if-peer.true (pushed c.push_str-then-peer.result (string_bytes c.args.text.now) c.as_str.result.now (string_bytes c.push_str-then-peer.new.self)
    (line ++ []) c.push_str-then-peer.ensures.bytes (is ∙ sym (append-nil line)))
