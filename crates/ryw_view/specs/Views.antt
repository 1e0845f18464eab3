-- The database that a view shows.
use Rattle.model_database.specs.Databases.{Database}
use Rattle.model_database.specs.States.{seen}
use Rattle.version_store.specs.Versions.{at}
use Rattle.ryw_view.specs.declared.view.View.{View}

-- what is stored at the version of the view
abbrev pub stored_of : View → Database
stored_of view = at view.store.now view.version

-- what is stored there after the pending mutations, as reads see it
abbrev pub seen_of : View → Database
seen_of view = seen view.edits.now.mutations (stored_of view)
