use Rattle.std.proofs.Common.{◌≡◌, ◌++◌, drop, string_bytes, map}
use Rattle.cfg_ast.specs.printing.Printed.{community_text}
use Rattle.printed_words.specs.Grown.{HasGrown}
use Rattle.printed_words.specs.Spaced.{spaced_words}
use Rattle.printed_words.proofs.words.put_communities.Given as goal

abbrev pub invariant-loop-community : goal.invariant-loop-community
invariant-loop-community l = (string_bytes l.text ++ spaced_words (map community_text (drop l.community-index l.items))
    ≡ string_bytes l.fn.text ++ spaced_words (map community_text l.items))
    × HasGrown (string_bytes l.fn.text) (string_bytes l.text)
