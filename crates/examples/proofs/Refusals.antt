-- Numbers of refusals, and calls that are refused. Assumes nothing.
use Rattle.std.proofs.Common.{refl}
use Rattle.examples.specs.Refusals.{NumberExamples, MakingExamples, SendExamples, PlanLineExamples, PacketLineExamples, RefusalExamples}

numbers : NumberExamples
numbers = record {
  outside_limits = refl;
  unfit_shape = refl;
  short_memory = refl;
  other_length = refl;
  short_output = refl;
  ends_early = λ word. refl;
  other_kind = λ word. refl;
  wrong_bits = λ word. refl;
  other_shape = refl;
  broken_line = refl;
  slot_below = refl;
  slot_above = refl;
  packet_below = refl;
  packet_above = refl;
  unkept_memory = refl;
  contradiction = refl;
}

making : MakingExamples
making = record {
  largest = refl;
  no_symbols = refl;
  many_symbols = refl;
  no_sources = refl;
  many_sources = refl;
  no_parities = refl;
  many_parities = refl;
  symbols_and_sources = refl;
}

sending : SendExamples
sending = record {
  right = refl;
  longer_memory = refl;
  past_the_last_slot = refl;
  many_sources = refl;
  short_history = refl;
  short_packet = refl;
  long_packet = refl;
  short_output = refl;
  below = refl;
  above = refl;
  past_the_last_slot_and_wide = refl;
  short_history_and_packet = refl;
  short_packet_and_output = refl;
  short_output_and_below = refl;
  all_but_the_slot = refl;
  last_slot = refl;
  last_slot_again = refl;
  behind = refl;
  behind_with_all_wrong = refl;
}

plan_lines : PlanLineExamples
plan_lines = record {
  right = refl;
  largest = refl;
  no_letter = refl;
  leading_zero = refl;
  blank_behind = refl;
  no_losses = refl;
  many_losses = refl;
  many_symbols = refl;
  far_too_many = refl;
  no_losses_and_other_letter = refl;
  longest = refl;
  longer = refl;
}

packet_lines : PacketLineExamples
packet_lines = record {
  right = refl;
  odd = refl;
  upper_case = refl;
  shorter = refl;
  longer = refl;
  empty = refl;
  last_slot = refl;
  behind_odd = refl;
  behind_shorter = refl;
  behind_right = refl;
  word = refl;
  half_a_word = refl;
}

pub refusals : RefusalExamples
refusals = record { numbers = numbers; making = making; sends = sending; plan_lines = plan_lines; packet_lines = packet_lines }
