-- Refusals as the paper has them: numbers, 0 where nothing is refused, and where several apply the first of an order decides.
use Rattle.std.specs.Prelude.{ℕ, zero, suc, Bool, true, false, Result, Ok, Err, eqb, if◌then◌else◌}
use Rattle.base.specs.declared.Refusal.{Refusal}
use Rattle.base.specs.declared.Refused.{Refused}
use Rattle.base.specs.declared.Refusal.TheVariants.{FewerThan40Bytes, Model, Order, Ports, Speedup, Slots, Arrivals, Places, Capacity, SlotCounts, ArrivalPort, ShortLog, SwitchValue, AllArrived, LastSlot, DrainLimit, TableLength, ShortOutput, LentLength}

-- the number of a refusal that is given exactly when the test fails
unfoldable pub unless : Bool → ℕ → ℕ
unless true n = 0
unless false n = n

-- the first refusal, or where there is none the second
infixr 20 ◌⨟◌
unfoldable pub ◌⨟◌ : ℕ → ℕ → ℕ
zero ⨟ b = b
suc a ⨟ b = suc a

-- the number of each refusal in the paper's table
unfoldable pub number : Refusal → ℕ
number FewerThan40Bytes = 1
number Model = 2
number Order = 3
number Ports = 4
number Speedup = 5
number Slots = 6
number Arrivals = 7
number Places = 8
number Capacity = 9
number SlotCounts = 10
number ArrivalPort = 11
number ShortLog = 12
number SwitchValue = 13
number AllArrived = 14
number LastSlot = 15
number DrainLimit = 16
number TableLength = 17
number ShortOutput = 18
number LentLength = 30

-- the refusal of a number of the table
unfoldable pub numbered : ℕ → Refusal
numbered n =
    if eqb n 1 then FewerThan40Bytes else
    if eqb n 2 then Model else
    if eqb n 3 then Order else
    if eqb n 4 then Ports else
    if eqb n 5 then Speedup else
    if eqb n 6 then Slots else
    if eqb n 7 then Arrivals else
    if eqb n 8 then Places else
    if eqb n 9 then Capacity else
    if eqb n 10 then SlotCounts else
    if eqb n 11 then ArrivalPort else
    if eqb n 12 then ShortLog else
    if eqb n 13 then SwitchValue else
    if eqb n 14 then AllArrived else
    if eqb n 15 then LastSlot else
    if eqb n 16 then DrainLimit else
    if eqb n 17 then TableLength else
    if eqb n 18 then ShortOutput else
    LentLength

-- what is answered: the value where the number is 0, and else the refusal of that number
unfoldable pub judged : {A : Type 0} → ℕ → A → Result A Refusal
judged zero a = Ok a
judged (suc n) a = Err (numbered (suc n))

-- nothing where the test holds, and the refusal where it fails
unfoldable pub tested : {E : Type 0} → Bool → E → Result (Unit {0}) E
tested true e = Ok tt
tested false e = Err e

-- the same, with what is handed back where something is refused
unfoldable pub judged_with : {A B : Type 0} → ℕ → A → B → Result A (Refused B)
judged_with zero a b = Ok a
judged_with (suc n) a b = Err (record { refusal = numbered (suc n); answer = b })

-- the number of an answer's refusal, 0 where nothing is refused
unfoldable pub refusal_of : {A : Type 0} → Result A Refusal → ℕ
refusal_of (Ok a) = 0
refusal_of (Err e) = number e

unfoldable pub refusal_with : {A B : Type 0} → Result A (Refused B) → ℕ
refusal_with (Ok a) = 0
refusal_with (Err e) = number e.refusal
