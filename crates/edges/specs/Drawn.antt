-- The rows that a row meets in the index of items, and the edges that are drawn between it and them. Assumes nothing.
use Rattle.std.specs.Prelude.{ℕ, ◌+◌, ◌≡◌, Bool, not, cond, ◌&&◌, ◌||◌, List, eqb, length}
use Rattle.rules.specs.Lists.{any}
use Rattle.rules.specs.Raw.{unpack}
use Rattle.terms.specs.Words.{item, is_write}
use Rattle.lists.specs.Tables.{first_index}
use Rattle.graph.specs.Sets.{member}
use Rattle.edges.specs.Blocks.{foreign, front, has, hits}

-- h is what an index has. j wrote an item of one of the records; j read or wrote an item that one of the records writes
abbrev pub meets : ℕ → (ℕ → ℕ → Bool) → List ℕ → ℕ → Bool
meets w h ps j = any (λ p. h (w + item (unpack p)) j) ps

abbrev pub met_by : ℕ → (ℕ → ℕ → Bool) → List ℕ → ℕ → Bool
met_by w h ps j = any (λ p. is_write (unpack p) && (h (item (unpack p)) j || h (w + item (unpack p)) j)) ps

-- the r records of t at the front are marked in the index, for the row at a place; x and y are what they meet, without that row
pub record Met (w at t : ℕ) (ps tab new : List ℕ) (r x y : ℕ) : Type 0 where
  pub len : length new ≡ length tab
  pub count : r ≡ first_index (foreign t) ps
  pub is : (e j : ℕ) → has new e j ≡ (has tab e j || (eqb at j && any (hits w e) (front t ps)))
  pub touched : (j : ℕ) → member x j ≡ (not (eqb at j) && meets w (has tab) (front t ps) j)
  pub by : (j : ℕ) → member y j ≡ (not (eqb at j) && met_by w (has tab) (front t ps) j)

-- an edge to i is drawn from each row of a set
pub record Linked (from i : ℕ) (g new : List ℕ) : Type 0 where
  pub len : length new ≡ length g
  pub is : (a j : ℕ) → has new a j ≡ (has g a j || (member from a && eqb i j))

-- the edges between i and the rows that it meets
pub record Drawn (x y before i : ℕ) (g new : List ℕ) : Type 0 where
  pub len : length new ≡ length g
  pub is : (a j : ℕ) → has new a j ≡ (cond (eqb i a) (member x j && not (member before j)) (has g a j) || ((member y a || (member x a && member before a)) && eqb i j))
