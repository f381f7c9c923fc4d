-- Public: a finding where more is allowed.
use Rattle.endings.specs.declared.finding.Finding.{Finding}
use Rattle.endings.specs.declared.finding.Finding.TheVariants.{Output, Refusal, Misuse, ReadFailed, SecondFailed, NoMemory}
use Rattle.endings.specs.Findings.{Finds}
use Rattle.endings.specs.Telling.{Telling, output, refused}

-- a finding that is allowed is so where more is allowed, with weaker causes
pub finds_as : (finding : Finding) (A B : Telling → Type 0) (first first' second second' : Type 0) → ((o : Telling) → A o → B o) → (first → first')
    → (second → second') → Finds finding A first second → Finds finding B first' second'
finds_as (Output bytes all) A B first first' second second' more f s finds = more (output all bytes.items) finds
finds_as (Refusal reason) A B first first' second second' more f s finds = more (refused reason.items) finds
finds_as Misuse A B first first' second second' more f s finds = finds
finds_as ReadFailed A B first first' second second' more f s finds = f finds
finds_as SecondFailed A B first first' second second' more f s finds = s finds
finds_as NoMemory A B first first' second second' more f s finds = tt
