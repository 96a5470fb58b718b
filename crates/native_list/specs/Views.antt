-- The elements of a list, as an array in the same words.
use Rattle.std.specs.Prelude.{ℕ, ℤ, List}
use Rattle.job_base.specs.Forms.{SameBeyond}
use Rattle.frame_ast.specs.Contents.{Contents, Cells, elements, with_elements}
use Rattle.native_array.specs.declared.array.ArrayAt.{ArrayAt}
use Rattle.native_array.specs.Layout.{end_of, StandsFor as ArrayStandsFor}
use Rattle.native_list.specs.declared.ListAt.{ListAt}
use Rattle.native_list.specs.Layout.{StandsFor}

-- the array has the elements that the list has in these cells
pub record IsViewOf (at : ListAt) (cells : ℕ → ℤ) (view : ArrayAt) : Type 0 where
  pub reads : (c : Contents) → StandsFor at cells c → ArrayStandsFor view cells (Cells (elements c))
  -- a change of the array's words alone changes the elements of the list, and not its length
  pub writes : (new : ℕ → ℤ) (c : Contents) (ys : List ℤ) → StandsFor at cells c → ArrayStandsFor view new (Cells ys)
      → SameBeyond view.start (end_of view) cells new
      → StandsFor at new (with_elements ys c)
