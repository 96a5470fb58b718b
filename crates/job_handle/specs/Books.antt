-- The books that a `JobBook` stands for.
use Rattle.std.specs.Prelude.{◌≡◌, ℕ, suc, ◌<◌, ◌≤◌, true, List, slice_index_or, vec_len}
use Rattle.frame_ast.specs.Jobs.{Book, only, ancestors_in}
use Rattle.frame_ast.specs.Laws.{IsBook}
use Rattle.job_handle.specs.declared.handle.Handle.{Handle}
use Rattle.job_handle.specs.declared.book.JobBook.{JobBook}
use Rattle.job_handle.specs.Sets.{jobs_of}

-- how many jobs there are
abbrev pub count_of : JobBook → ℕ
count_of book = vec_len book.rows

-- Row j - 1 has job j and its ancestors, by whatever dependency sets: those of `b` are one choice.
pub record AreRowsOf (made : ℕ) (table : List Handle) (ended : Handle) (b : Book) : Type 0 where
  pub known : IsBook b
  pub count : made ≡ b.count
  pub rows : (j : ℕ) (d : Handle) → j < b.count → (k : ℕ)
      → jobs_of (slice_index_or table j d) k ≡ ancestors_in b (only (suc j)) k
  pub completed : (k : ℕ) → jobs_of ended k ≡ b.completed k

abbrev pub StandsFor : JobBook → Book → Type 0
StandsFor book b = AreRowsOf (vec_len book.rows) book.rows.items book.completed b

-- What a union of rows has, when the jobs of `h` from the newest down to `left` + 1 were looked at: only what they lead
-- to, all that it leads to, and each of them.
pub record IsUnion (made : ℕ) (table : List Handle) (ended h all : Handle) (left : ℕ) : Type 0 where
  pub sub : (b : Book) → AreRowsOf made table ended b → (k : ℕ) → jobs_of all k ≡ true
      → ancestors_in b (jobs_of h) k ≡ true
  pub closed : (b : Book) → AreRowsOf made table ended b → (m k : ℕ) → jobs_of all m ≡ true
      → ancestors_in b (only m) k ≡ true → jobs_of all k ≡ true
  pub cover : (m : ℕ) → left < m → m ≤ made → jobs_of h m ≡ true → jobs_of all m ≡ true
