-- Worlds that are alike after an effect, and the room that an answer grants.
use Rattle.std.proofs.Common.{ℕ, List, Ok, Err, refl, arith}
use Rattle.std.specs.Prelude.{Result, IfOk}
use Rattle.library.specs.declared.reader.Reader.{Ghosts as OfReader}
use Rattle.refusal.specs.declared.Refusal.{Refusal}
use Rattle.machine.specs.declared.amounts.Amounts.{Amounts}
use Rattle.machine.specs.Texts.{Text, Code}
use Rattle.machine.specs.World.{calling, Asks, nothing_more, names_and_store, store_only, print_only}
use Rattle.machine.specs.World as machine
use Rattle.plan.specs.declared.effect.Effect.{Effect}
use Rattle.plan.specs.declared.effect.Effect.TheVariants.{DefineString}
use Rattle.plan.specs.Effects.{performed}
use Rattle.world.specs.declared.world.World.{World}
use Rattle.world.specs.Standing.{Ready, HasRoomFor}
use Rattle.asking.specs.Answers.{Alike, Within}

-- an effect does not see the name of the call
pub alike_called : (code : Code) (ps : List Text) (store : List ℕ) (e : Effect) (n : Text) (w : machine.World) → Alike (performed code ps store e w) (performed code ps store e (calling n w))
alike_called code ps store DefineString n w = record { dictionary = refl; printed = refl }
alike_called code ps store other n w = record { dictionary = refl; printed = refl }

-- what is within the bounds has room in a world that is ready for them
pub room_within : {K : Type 0} (reader : OfReader K) (w : World K) (b : Amounts) (asks : Asks) (v : machine.World) → Ready reader w b → Within b asks v → HasRoomFor w asks v
room_within reader w b nothing_more v ready h = tt
room_within reader w b names_and_store v ready h = record { names = omega (arith, ready.names, h.0); bytes = omega (arith, ready.store, h.1) }
room_within reader w b store_only v ready h = omega (arith, ready.store)
room_within reader w b print_only v ready h = omega (arith, ready.print)

pub room_granted : {K : Type 0} (reader : OfReader K) (w : World K) (b : Amounts) (asks : Asks) (v : machine.World) (r : Result (Unit {0}) Refusal) → Ready reader w b → IfOk r (λ _. Within b asks v) → IfOk r (λ _. HasRoomFor w asks v)
room_granted reader w b asks v (Ok u) ready h = room_within reader w b asks v ready h
room_granted reader w b asks v (Err e) ready h = tt
