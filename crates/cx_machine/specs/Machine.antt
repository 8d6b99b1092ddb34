-- The machine: objects, places, what a run comes to, and how runs follow one another.
use Rattle.std.specs.Prelude.{ℕ, zero, suc, ℤ, Bool, true, false, ◌==◌, List, [], ◌∷◌, ◌++◌, map, length, take, drop, Option, Some, None, slice_get, slice_set, option_map, option_and_then, if◌then◌else◌}
use Rattle.cx_machine.specs.Values.{Val, Number, Struct, field, part_at, with_part, is_true}

-- ---- what there is

-- An object ([intro.object]): its value within its lifetime ([basic.life]), and none behind it.
abbrev pub Object : Type 0
Object = Option Val

-- Of a run: the objects in the order in which they were made, what was printed, and how many steps are left.
pub record State : Type 0 where
  pub store : List Object
  pub printed : List ℤ
  pub left : ℕ

-- an object by its number, or a global by its number
pub data Root : Type 0 where
  OfObject : ℕ → Root
  OfGlobal : ℕ → Root

-- A place: an object or a global, or a part of it that a path of fields leads to.
pub record Place : Type 0 where
  pub root : Root
  pub path : List ℕ

-- What an expression comes to: a place that was not read, a value, or nothing where its type is void.
pub data Answer : Type 0 where
  At : Place → Answer
  Of : Val → Answer
  Nothing : Answer

-- ---- what a run comes to

-- Done: it gave this and left that state. Undefined: it did what has no meaning. Running: no step is left for what comes
-- next. Both of these with what was printed before.
pub data Outcome (A : Type 0) : Type 0 where
  Done : A → State → Outcome A
  Undefined : (printed : List ℤ) → Outcome A
  Running : (printed : List ℤ) → Outcome A

abbrev pub Run : Type 0 → Type 0
Run A = State → Outcome A

-- what comes next has what was given, and the state that was left
abbrev pub after : {A B : Type 0} → Outcome A → (A → Run B) → Outcome B
after (Done x s) next = next x s
after (Undefined printed) next = Undefined printed
after (Running printed) next = Running printed

abbrev pub bind : {A B : Type 0} → Run A → (A → Run B) → Run B
bind first next s = after (first s) next

abbrev pub give : {A : Type 0} → A → Run A
give x s = Done x s

abbrev pub undefined : {A : Type 0} → Run A
undefined s = Undefined s.printed

-- what is there, or undefined
abbrev pub given : {A : Type 0} → Option A → Run A
given None = undefined
given (Some x) = give x

-- One step is taken, if there is one.
abbrev pub step_of : ℕ → Run (Unit {0})
step_of zero s = Running s.printed
step_of (suc left) s = Done tt (record s { left = left })

abbrev pub step : Run (Unit {0})
step s = step_of s.left s

-- a number is printed
abbrev pub print : ℤ → Run (Unit {0})
print z s = Done tt (record s { printed = s.printed ++ z ∷ [] })

abbrev pub print_value : Val → Run (Unit {0})
print_value (Number t z) = print z
print_value (Struct vs) = undefined

-- ---- objects

-- A new object with a value; its number is that of the objects before it.
abbrev pub make : Val → Run ℕ
make v s = Done (length s.store) (record s { store = s.store ++ Some v ∷ [] })

abbrev pub whole : ℕ → Place
whole object = record { root = OfObject object; path = [] }

-- The lifetimes of all objects end but those of the first so many.
abbrev pub dead : Object → Object
dead o = None

abbrev pub ended : ℕ → List Object → List Object
ended n store = take n store ++ map dead (drop n store)

abbrev pub end_from : ℕ → State → State
end_from n s = record s { store = ended n s.store }

-- A run at whose end the lifetimes of the objects end that it made: of temporaries with their full-expression
-- ([class.temporary]), of variables with their block ([basic.stc.auto]), of parameters with their call ([expr.call]).
abbrev pub closing : {A : Type 0} → Run A → Run A
closing run s = after (run s) (λ x s'. Done x (end_from (length s.store) s'))

-- ---- reading and writing

-- the value of an object of a number
abbrev pub object_value : List Object → ℕ → Option Val
object_value store k = option_and_then (λ o. o) (slice_get store k)

-- the value of a root, where globals have these values
abbrev pub root_value : List Val → List Object → Root → Option Val
root_value globals store (OfGlobal k) = slice_get globals k
root_value globals store (OfObject k) = object_value store k

-- What stands at a place ([conv.lval]). It is undefined to read a dead object.
abbrev pub read : List Val → Place → Run Val
read globals place s = given (option_and_then (part_at place.path) (root_value globals s.store place.root)) s

-- The store after a write to a part of a root; a dead object is not written, and no global.
abbrev pub with_object : List Object → ℕ → Val → List Object
with_object store k v = slice_set store k (Some v)

abbrev pub written : List Object → Root → List ℕ → Val → Option (List Object)
written store (OfGlobal k) path v = None
written store (OfObject k) path v = option_map (with_object store k) (option_and_then (with_part path v) (object_value store k))

-- A value is put at a place ([expr.ass]).
abbrev pub write : Place → Val → Run (Unit {0})
write place v s = bind (given (written s.store place.root place.path v)) (λ store s'. Done tt (record s' { store = store })) s

-- the value that an answer stands for: a place is read
abbrev pub load : List Val → Answer → Run Val
load globals (At place) = read globals place
load globals (Of v) = give v
load globals Nothing = undefined

-- the place that an answer is
abbrev pub place_of : Answer → Run Place
place_of (At place) = give place
place_of (Of v) = undefined
place_of Nothing = undefined

-- A field of what an answer stands for ([expr.ref]): of a place a place, which is not read.
abbrev pub field_of : ℕ → Answer → Run Answer
field_of k (At place) = give (At (record place { path = place.path ++ k ∷ [] }))
field_of k (Of v) = given (option_map Of (field k v))
field_of k Nothing = undefined

-- One of two runs, by a condition.
abbrev pub chosen : {A : Type 0} → Bool → Run A → Run A → Run A
chosen true first second = first
chosen false first second = second

abbrev pub when : {A : Type 0} → Val → Run A → Run A → Run A
when v first second = bind (given (is_true v)) (λ b. chosen b first second)

-- ---- names

-- A local with the place that it stands for.
pub record Bound : Type 0 where
  pub local : ℕ
  pub place : Place

-- the locals of a body, the last declared one first
abbrev pub Env : Type 0
Env = List Bound

abbrev pub bound_to : ℕ → Env → Option Place
bound_to local [] = None
bound_to local (b ∷ bs) = if b.local == local then Some b.place else bound_to local bs
