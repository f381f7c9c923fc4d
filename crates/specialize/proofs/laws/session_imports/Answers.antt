use Rattle.specialize.proofs.Sessions as sessions
use Rattle.specialize.proofs.laws.session_imports.Goals as goal

pub returns : goal.returns
returns c = λ p exporter importer out into well other. sessions.imports_as_session p exporter out importer into well other
