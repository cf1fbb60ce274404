-- The numbers of a table's tree. The constants of the source have to be these.
use Rattle.std.specs.Prelude.{ℕ}

-- the most indexes of a node
abbrev pub most_in_row : ℕ
most_in_row = 11

-- the fewest indexes of a node below the root
abbrev pub least_in_row : ℕ
least_in_row = 5

-- the most children of a node, and the room of a block
abbrev pub most_children : ℕ
most_children = 12

-- the most levels of a tree
abbrev pub most_levels : ℕ
most_levels = 12

-- how many indexes never need an inner node
abbrev pub free_indexes : ℕ
free_indexes = 10

-- how many more indexes each further inner node needs at least
abbrev pub indexes_of_a_block : ℕ
indexes_of_a_block = 30
