-- The kernels of the worked scripts, each as its text reads.
use Rattle.std.proofs.Common.{List, [], ◌∷◌}
use Rattle.ast_rows.proofs.Kernel.{Text, ro, wo, rw, wo_by, rw_by, an_int, an_array, a_list, a_ref, a_map, a_stream, job, parallel, number, index, local, value, element, len, has, count, item, negative, not, ◌||◌, ◌&&◌, ◌<◌, ◌>◌, ◌+◌, ◌-◌, ◌*◌, ◌/◌, ◌%◌, assign, set_value, store, add, add_pair, try_add, remove_at, remove_key, clear, write, begin, if_, for_, while, end, ◌⨾◌}

-- parallel scale(x: ro array, y: wo array) { y[index] = x[index] * 3; }
abbrev pub scale : Text
scale = parallel "scale" (ro an_array "x" ∷ wo an_array "y" ∷ []) 0 (store 1 index (element 0 index * number 3) ⨾ end)

-- job total(y: ro array, t: wo ref) { var s = 0; for k in 0..len(y) { s = s + y[k]; } t = s; }
abbrev pub total : Text
total = job "total" (ro an_array "y" ∷ wo a_ref "t" ∷ []) 2 (
    assign 0 (number 0)
    ⨾ for_ 1 (number 0) (len 0) (assign 0 (local 0 + element 0 (local 1)) ⨾ end)
    ⨾ set_value 1 (local 0)
    ⨾ end)

-- job bump(a: rw array) { a[0] = a[0] + 1; }
abbrev pub bump : Text
bump = job "bump" (rw an_array "a" ∷ []) 0 (store 0 (number 0) (element 0 (number 0) + number 1) ⨾ end)

-- job peek(a: ro array, t: wo ref) { t = a[0]; }
abbrev pub peek : Text
peek = job "peek" (ro an_array "a" ∷ wo a_ref "t" ∷ []) 0 (set_value 1 (element 0 (number 0)) ⨾ end)

-- parallel shift(b: rw array) { b[index + 1] = b[index] + 1; }
abbrev pub shift : Text
shift = parallel "shift" (rw an_array "b" ∷ []) 0 (store 0 (index + number 1) (element 0 index + number 1) ⨾ end)

-- job pair(a: ro array, b: rw array) { b[0] = a[0]; }
abbrev pub pair : Text
pair = job "pair" (ro an_array "a" ∷ rw an_array "b" ∷ []) 0 (store 1 (number 0) (element 0 (number 0)) ⨾ end)

-- job both(a: ro array, b: ro array, t: wo ref) { t = a[0] + b[0]; }
abbrev pub both : Text
both = job "both" (ro an_array "a" ∷ ro an_array "b" ∷ wo a_ref "t" ∷ []) 0 (
    set_value 2 (element 0 (number 0) + element 1 (number 0)) ⨾ end)

-- parallel emit(s: wo stream) { begin s[index] { for k in 0..index % 4 { write(s, index); } } }
abbrev pub emit : Text
emit = parallel "emit" (wo a_stream "s" ∷ []) 1 (
    begin 0 index (for_ 0 (number 0) (index % number 4) (write 0 index ⨾ end) ⨾ end) ⨾ end)

-- job slow(a: rw array) { var k = 0; while k < 30 { k = k + 1; } a[0] = 1 / 0; }
abbrev pub slow : Text
slow = job "slow" (rw an_array "a" ∷ []) 1 (
    assign 0 (number 0)
    ⨾ while (local 0 < number 30) (assign 0 (local 0 + number 1) ⨾ end)
    ⨾ store 0 (number 0) (number 1 / number 0)
    ⨾ end)

-- job quick(a: rw array) { a[9] = 1; }
abbrev pub quick : Text
quick = job "quick" (rw an_array "a" ∷ []) 0 (store 0 (number 9) (number 1) ⨾ end)

-- job keys(m: rw map, t: wo ref) { var r = 0; r = try_add(m, 1, 9); t = r; add(m, 3, 3); }
abbrev pub keys : Text
keys = job "keys" (rw a_map "m" ∷ wo a_ref "t" ∷ []) 1 (
    assign 0 (number 0)
    ⨾ try_add 0 0 (number 1) (number 9)
    ⨾ set_value 1 (local 0)
    ⨾ add_pair 0 (number 3) (number 3)
    ⨾ end)

-- parallel push(l: rw list) { add(l, index); }
abbrev pub push : Text
push = parallel "push" (rw a_list "l" ∷ []) 0 (add 0 index ⨾ end)

-- job triple(x: ro array, y: wo array) { for k in 0..len(x) { y[k] = x[k] * 3; } }
abbrev pub triple : Text
triple = job "triple" (ro an_array "x" ∷ wo an_array "y" ∷ []) 1 (
    for_ 0 (number 0) (len 0) (store 1 (local 0) (element 0 (local 0) * number 3) ⨾ end) ⨾ end)

-- job edge(a: rw array) { a[1] = 5; a[0] = a[0] + 1; a[2] = 9; }
abbrev pub edge : Text
edge = job "edge" (rw an_array "a" ∷ []) 0 (
    store 0 (number 1) (number 5)
    ⨾ store 0 (number 0) (element 0 (number 0) + number 1)
    ⨾ store 0 (number 2) (number 9)
    ⨾ end)

-- job twice(s: wo stream) { begin s[0] { write(s, 5); } begin s[2] { } begin s[0] { } }
abbrev pub twice : Text
twice = job "twice" (wo a_stream "s" ∷ []) 0 (
    begin 0 (number 0) (write 0 (number 5) ⨾ end)
    ⨾ begin 0 (number 2) end
    ⨾ begin 0 (number 0) end
    ⨾ end)

-- parallel pairs(a: rw array by 2) { a[index * 2] = index; a[index * 2 + 1] = index + 10; }
abbrev pub pairs : Text
pairs = parallel "pairs" (rw_by 2 "a" ∷ []) 0 (
    store 0 (index * number 2) index
    ⨾ store 0 (index * number 2 + number 1) (index + number 10)
    ⨾ end)

-- parallel over(a: wo array by 2) { a[index * 2] = 7; a[index * 2 + 2] = 8; }
abbrev pub over : Text
over = parallel "over" (wo_by 2 "a" ∷ []) 0 (
    store 0 (index * number 2) (number 7)
    ⨾ store 0 (index * number 2 + number 2) (number 8)
    ⨾ end)

-- job grow(l: rw list) { add(l, 7); add(l, 8); }
abbrev pub grow : Text
grow = job "grow" (rw a_list "l" ∷ []) 0 (add 0 (number 7) ⨾ add 0 (number 8) ⨾ end)

-- job cap(x: rw array, n: int) { for k in 0..len(x) { if x[k] > n { x[k] = n; } else { x[k] = x[k] - 1; } } }
abbrev pub cap : Text
cap = job "cap" (rw an_array "x" ∷ an_int "n" ∷ []) 1 (
    for_ 0 (number 0) (len 0) (
    if_ (element 0 (local 0) > value 1)
    (store 0 (local 0) (value 1) ⨾ end)
    (store 0 (local 0) (element 0 (local 0) - number 1) ⨾ end)
    ⨾ end)
    ⨾ end)

-- job signs(a: wo array) { a[0] = -7 / 2; a[1] = -7 % 2; a[2] = 7 / -2; a[3] = 7 % -2; }
abbrev pub signs : Text
signs = job "signs" (wo an_array "a" ∷ []) 0 (
    store 0 (number 0) (negative (number 7) / number 2)
    ⨾ store 0 (number 1) (negative (number 7) % number 2)
    ⨾ store 0 (number 2) (number 7 / negative (number 2))
    ⨾ store 0 (number 3) (number 7 % negative (number 2))
    ⨾ end)

-- job logic(a: wo array) { a[0] = !0; a[1] = !5; a[2] = 3 && 4; a[3] = 0 && 1 / 0; a[4] = 0 || 6; a[5] = 2 || 1 / 0; a[6] = 1 && 1 / 0; }
abbrev pub logic : Text
logic = job "logic" (wo an_array "a" ∷ []) 0 (
    store 0 (number 0) (not (number 0))
    ⨾ store 0 (number 1) (not (number 5))
    ⨾ store 0 (number 2) (number 3 && number 4)
    ⨾ store 0 (number 3) (number 0 && number 1 / number 0)
    ⨾ store 0 (number 4) (number 0 || number 6)
    ⨾ store 0 (number 5) (number 2 || number 1 / number 0)
    ⨾ store 0 (number 6) (number 1 && number 1 / number 0)
    ⨾ end)

-- job edit(l: rw list, m: rw map, t: wo ref) { var r = 0; remove(l, 0); r = remove(m, 1); if has(m, 2) { m[2] = m[2] + r; } t = len(l); clear(l); }
abbrev pub edit : Text
edit = job "edit" (rw a_list "l" ∷ rw a_map "m" ∷ wo a_ref "t" ∷ []) 1 (
    assign 0 (number 0)
    ⨾ remove_at 0 (number 0)
    ⨾ remove_key 0 1 (number 1)
    ⨾ if_ (has 1 (number 2)) (store 1 (number 2) (element 1 (number 2) + local 0) ⨾ end) end
    ⨾ set_value 2 (len 0)
    ⨾ clear 0
    ⨾ end)

-- job lookup(s: ro stream, t: wo ref) { t = count(s, 2) * 10 + at(s, 3, 1); }
abbrev pub lookup : Text
lookup = job "lookup" (ro a_stream "s" ∷ wo a_ref "t" ∷ []) 0 (
    set_value 1 (count 0 (number 2) * number 10 + item 0 (number 3) (number 1)) ⨾ end)

-- job again(m: rw map) { add(m, 1, 5); add(m, 1, 6); }
abbrev pub again : Text
again = job "again" (rw a_map "m" ∷ []) 0 (
    add_pair 0 (number 1) (number 5) ⨾ add_pair 0 (number 1) (number 6) ⨾ end)

-- job missed(m: ro map, t: wo ref) { t = m[4]; }
abbrev pub missed : Text
missed = job "missed" (ro a_map "m" ∷ wo a_ref "t" ∷ []) 0 (set_value 1 (element 0 (number 4)) ⨾ end)

-- parallel mark(b: rw array) { b[index] = index; }
abbrev pub mark : Text
mark = parallel "mark" (rw an_array "b" ∷ []) 0 (store 0 index index ⨾ end)

-- parallel cross(s: wo stream) { begin s[0] { } }
abbrev pub cross : Text
cross = parallel "cross" (wo a_stream "s" ∷ []) 0 (begin 0 (number 0) end ⨾ end)

-- job spin(a: rw array) { a[0] = 1; while 1 { } }
abbrev pub spin : Text
spin = job "spin" (rw an_array "a" ∷ []) 0 (store 0 (number 0) (number 1) ⨾ while (number 1) end ⨾ end)

-- job loop(t: wo ref) { for k in 0..5 { } t = 1; }
abbrev pub loop : Text
loop = job "loop" (wo a_ref "t" ∷ []) 1 (for_ 0 (number 0) (number 5) end ⨾ set_value 0 (number 1) ⨾ end)

-- Scripts take their kernels from this one list, whether they use all of them or not.
abbrev pub kernels : List Text
kernels = scale ∷ total ∷ bump ∷ peek ∷ shift ∷ pair ∷ both ∷ emit ∷ slow ∷ quick ∷ keys ∷ push ∷ triple ∷ edge ∷ twice ∷ pairs ∷ over ∷ grow ∷ cap ∷ signs
    ∷ logic ∷ edit ∷ lookup ∷ again ∷ missed ∷ mark ∷ cross ∷ []
