use Rattle.cfg_ast.specs.text.Heads.{bgp_heads}
use Rattle.cfg_ast.specs.text.Lines.{texts}
use Rattle.cfg_words.specs.Rows.{rows_of}
use Rattle.cfg_words.proofs.Longest.{class_narrowed}
use Rattle.cfg_words.proofs.heads.bgp_class.Goals as goal

pub returns : goal.returns
returns c = class_narrowed 110 2 c.first_byte.result c.third_byte.result bgp_heads (rows_of c.begun_by-rows.result.now)
    (texts c.args.bytes.now c.args.words.now) c.class_among.result c.class_among.ensures c.begun_by-rows.ensures c.first_byte.ensures c.third_byte.ensures
