-- What is printed, without the ends of lines. Lists hold the codes of characters. Assumes nothing.
use Rattle.std.specs.Prelude.{ℕ, cond, List, ◌++◌, codes, decimal, ◌==◌}
use Rattle.refusal.specs.declared.Refusal.{Refusal}
use Rattle.refusal.specs.declared.Refusal.TheVariants.{OutsideLimits, UnfitShape, ShortMemory, OtherLength, ShortOutput, OtherShape, BrokenLine, SlotBelow, SlotAbove, PacketBelow, PacketAbove, UnkeptMemory, Contradiction}
use Rattle.refusal.specs.Number.{number_of}
use Rattle.arithmetic.specs.Operations.{Bytes}
use Rattle.codes.specs.Shape.{Shape}
use Rattle.hextext.specs.Packet.{packet_text}
use Rattle.plan.specs.declared.card.ArithmeticName.{ArithmeticName}
use Rattle.plan.specs.Names.{text_of_name}

-- the plan as it was handed in
abbrev pub text_of_plan : ℕ → ℕ → ℕ → ℕ → ArithmeticName → List ℕ
text_of_plan b m α l name =
    codes "plan B=" ++ (decimal b ++ (codes " m=" ++ (decimal m ++ (codes " alpha=" ++ (decimal α ++ (codes " L=" ++ (decimal l ++ (codes " " ++ (text_of_name name ++ codes " arithmetic")))))))))

-- what follows from it: both deadlines, and the shape of its code
abbrev pub text_of_shape : ℕ → ℕ → Shape → List ℕ
text_of_shape t d x =
    codes "T=" ++ (decimal t ++ (codes " D=" ++ (decimal d ++ (codes " K=" ++ (decimal x.sources ++ (codes " P=" ++ (decimal x.parities ++ (codes " M=" ++ decimal x.memory))))))))

-- a slot, its packet and its parities
abbrev pub text_of_slot : {S : Type 0} → Bytes S → ℕ → List S → List S → List ℕ
text_of_slot b slot packet parities =
    codes "slot " ++ decimal slot ++ codes " packet " ++ packet_text b packet ++ codes " parities " ++ packet_text b parities

-- what is wrong and what would be right; on the first line, of the plan
abbrev pub advice : Refusal → ℕ → List ℕ
advice OutsideLimits n =
    cond (n == 1) (codes "a number is outside its limits: B is 1 to 63, m 1 to 8, alpha 1 to 8, L 1 to 32")
    (codes "the last slot of a link is 268435455: start another link")
advice UnfitShape n = codes "a packet has 1 to 8 sub-symbols, and a block 1 to 4 parities: choose another plan"
advice ShortMemory n = codes "the history is too short: it holds as many packets as the code's memory says"
advice OtherLength n = codes "the packet has another length than the plan's: m times L symbols, of 8 digits each for W and 2 for F"
advice ShortOutput n = codes "the output is too short: it takes a whole block"
advice OtherShape n = codes "the frame's symbols have another width: compare the plan cards of truck and studio"
advice BrokenLine n =
    cond (n == 1) (codes "the first line is B m alpha L, decimal and without leading zeros, and W or F, one blank between, as in: 1 2 2 1 F")
    (codes "a packet is an even number of the digits 0 to 9 and a to f, and no line is longer than 2050 characters")
advice SlotBelow n = codes "this slot was sent before: send the next one"
advice SlotAbove n = codes "a slot was left out: send the next one first"
advice PacketBelow n = codes "the packet is older than all that are still kept: ask for it before the window has moved past it"
advice PacketAbove n = codes "the packet's slot is not settled yet: hand over its frame or report it lost first"
advice UnkeptMemory n = codes "the memory is not in the form that the receiver keeps: hand in the memory that the last call left"
advice Contradiction n = codes "the block contradicts what came before it: compare the plan cards of truck and studio"

abbrev pub text_of_refusal : Refusal → ℕ → List ℕ
text_of_refusal w n = codes "refused " ++ (decimal (number_of w) ++ (codes " line " ++ (decimal n ++ (codes ": " ++ advice w n))))
