mod Names
mod OrderedTableLemmas
