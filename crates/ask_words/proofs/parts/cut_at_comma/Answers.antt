use Rattle.std.proofs.Common.{sym, ◌∙◌}
use Rattle.std.proofs.lemmas.List.Splits.{slice_split_none, slice_split_first}
use Rattle.ask_words.specs.NameLists.{is_comma}
use Rattle.ask_words.proofs.Lists.{none_passes, some_passes}
use Rattle.ask_words.proofs.parts.cut_at_comma.Goals as goal

pub returns-then-not-has-clause-parts : goal.returns-then-not-has-clause-parts
returns-then-not-has-clause-parts c = slice_split_none is_comma c.args.word.now
    (none_passes is_comma c.args.word.now (sym c.has.ensures ∙ c.if-not-has.true))

pub returns-clause-parts : goal.returns-clause-parts
returns-clause-parts c = rw (c.behind.ensures, c.place_of-comma.ensures.value)
    (slice_split_first is_comma c.args.word.now 0 (some_passes is_comma c.args.word.now (sym c.has.ensures ∙ c.if-not-has.false)))
