-- The lines of a box, byte for byte, from the statement of the script.
--
-- Decided here: how a schedule that was accepted is written, and how one that was refused. Which schedules were
-- accepted isn't decided here, nor what language the lines end up in.
use Rattle.std.specs.Prelude.{ℕ, Bool, true, false, ◌&&◌, not, if◌then◌else◌, List, [], ◌∷◌, ◌++◌, map, get_or, Option, None, Some, slice_get, codes, decimal, string_bytes}
use Rattle.std.specs.Fmt.{signed_decimal}
use Rattle.job_base.specs.declared.Access.{Access}
use Rattle.job_base.specs.declared.Access.TheVariants.{Read, Write, Both}
use Rattle.job_base.specs.declared.Refusal.{Refusal}
use Rattle.frame_ast.specs.declared.kernel.Kernel.{Kernel}
use Rattle.frame_ast.specs.declared.kernel.Param.{Param}
use Rattle.frame_ast.specs.declared.script.Arg.{Arg}
use Rattle.frame_ast.specs.declared.script.Arg.TheVariants.{Name, Number}
use Rattle.frame_ast.specs.declared.script.NewJob.{NewJob}
use Rattle.frame_ast.specs.declared.script.Script.{Script}
use Rattle.frame_ast.specs.Accepted.{is_int}
use Rattle.frame_ast.specs.Texts.{listed, refusal_text}
use Rattle.schedule_text.specs.declared.boxes.Size.{Size}

-- NAMES

abbrev pub name_text : Script → ℕ → List ℕ
name_text script n = get_or script.names n []

abbrev pub kernel_name : Script → ℕ → List ℕ
kernel_name script n = get_or (map (λ k. string_bytes k.name) script.kernels.items) n []

-- THE CALL

abbrev pub arg_text : Script → Arg → List ℕ
arg_text script (Name n) = name_text script n
arg_text script (Number z) = signed_decimal z

abbrev pub call_text : Script → NewJob → List ℕ
call_text script job = kernel_name script job.kernel
    ++ (codes "(" ++ (listed (arg_text script) job.args.items ++ codes ")"))

-- WHAT IT USES

abbrev pub access_word : Access → List ℕ
access_word Read = codes "ro"
access_word Write = codes "wo"
access_word Both = codes "rw"

abbrev pub is_access : Access → Access → Bool
is_access Read Read = true
is_access Write Write = true
is_access Both Both = true
is_access _ _ = false

-- the parameter takes a container with this access
abbrev pub is_used : Param → Access → Bool
is_used p wanted = not (is_int p.kind) && is_access p.access wanted

-- an argument of this access, after a space
abbrev pub used_part : Script → Access → Arg → Param → List ℕ
used_part script wanted a p = if is_used p wanted then codes " " ++ arg_text script a else []

abbrev pub used_text : Script → Access → List Arg → List Param → List ℕ
used_text script wanted [] params = []
used_text script wanted (a ∷ args) [] = []
used_text script wanted (a ∷ args) (p ∷ params) = used_part script wanted a p ++ used_text script wanted args params

-- a word before some text, and nothing where there is none
abbrev pub headed : List ℕ → List ℕ → List ℕ
headed word [] = []
headed word (c ∷ text) = word ++ (c ∷ text)

abbrev pub usage_text : Script → Access → List Arg → List Param → List ℕ
usage_text script wanted args params = headed (access_word wanted) (used_text script wanted args params)

-- a line of its own, unless it is empty
abbrev pub line_of : List ℕ → List (List ℕ)
line_of [] = []
line_of (c ∷ text) = (c ∷ text) ∷ []

abbrev pub usage_in : Script → NewJob → Access → Option Kernel → List ℕ
usage_in script job wanted None = []
usage_in script job wanted (Some k) = usage_text script wanted job.args.items k.params.items

abbrev pub usage_of : Script → NewJob → Access → List ℕ
usage_of script job wanted = usage_in script job wanted (slice_get script.kernels.items job.kernel)

-- THE BOXES

-- what follows the number of the line
abbrev pub cut_text : Option (ℕ × ℕ) → Size → List ℕ
cut_text None size = []
cut_text (Some c) size = codes ", indexes " ++ (decimal size.indexes ++ (codes ", pieces " ++ decimal size.pieces))

abbrev pub length_text : Script → Option (ℕ × ℕ) → Option (ℕ × ℕ) → Size → List ℕ
length_text script None cut size = cut_text cut size
length_text script (Some d) cut size = codes ", as long as " ++ (name_text script d.0 ++ (codes ", at most "
    ++ (decimal size.indexes ++ (codes ", pieces " ++ decimal size.pieces))))

abbrev pub size_text : Script → NewJob → Size → List ℕ
size_text script job size = length_text script job.defer job.cut size

-- The number and the handle, the call, the line and the length, and a line for each access.
abbrev pub job_lines : Script → ℕ → NewJob → ℕ → Size → List (List ℕ)
job_lines script line job number size =
    (codes "job " ++ (decimal number ++ (codes " " ++ name_text script job.handle)))
    ∷ call_text script job
    ∷ (codes "line " ++ (decimal line ++ size_text script job size))
    ∷ (line_of (usage_of script job Read)
    ++ (line_of (usage_of script job Write) ++ line_of (usage_of script job Both)))

-- The handle, the call, the line, and the cause.
abbrev pub refused_lines : Script → ℕ → NewJob → Refusal → ℕ → List (List ℕ)
refused_lines script line job refusal name =
    (codes "refused " ++ name_text script job.handle)
    ∷ call_text script job
    ∷ (codes "line " ++ decimal line)
    ∷ refusal_text refusal (name_text script name)
    ∷ []
