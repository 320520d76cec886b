-- The examples are computed.
use Rattle.std.proofs.Common.{refl}
use Rattle.std.specs.Int.{int_wrap}
use Rattle.std.specs.Fmt.{digits}
use Rattle.jv_meaning.specs.examples.Small.{skips_the_second_operand, fields_begin_with_defaults, least_int_wraps, a_switch_falls_through}
use Rattle.jv_meaning.specs.examples.Small.{continues_out_of_a_switch, a_call_spends_the_budget, a_call_has_a_budget}
use Rattle.jv_meaning.specs.examples.Small.{a_loop_spends_the_budget, a_do_loop_spends_the_budget, a_do_loop_ends}
use Rattle.jv_meaning.specs.examples.Small.{arguments_come_before_the_null_test}
use Rattle.jv_meaning.specs.examples.Small as small_examples
use Rattle.jv_meaning.specs.examples.Programs.{the_file_reader, the_counter, the_linked_list, arithmetic}
use Rattle.jv_meaning.specs.examples.Programs as programs_examples
use Rattle.jv_meaning.specs.examples.Roles.{the_client, the_server, without_a_client, the_client_is_slow, the_client_says_more}
use Rattle.jv_meaning.specs.examples.Roles.{the_client_sends_a_text}
use Rattle.jv_meaning.specs.examples.Roles as roles_examples
use Rattle.jv_meaning.specs.examples.Followed as followed_examples

is_skips_the_second_operand : skips_the_second_operand
unfolding int_wrap digits
is_skips_the_second_operand = refl

is_fields_begin_with_defaults : fields_begin_with_defaults
unfolding int_wrap digits
is_fields_begin_with_defaults = refl

is_least_int_wraps : least_int_wraps
unfolding int_wrap digits
is_least_int_wraps = refl

is_a_switch_falls_through : a_switch_falls_through
unfolding int_wrap digits
is_a_switch_falls_through = refl

is_continues_out_of_a_switch : continues_out_of_a_switch
unfolding int_wrap digits
is_continues_out_of_a_switch = refl

is_a_call_spends_the_budget : a_call_spends_the_budget
unfolding int_wrap digits
is_a_call_spends_the_budget = refl

is_a_call_has_a_budget : a_call_has_a_budget
unfolding int_wrap digits
is_a_call_has_a_budget = refl

is_a_loop_spends_the_budget : a_loop_spends_the_budget
unfolding int_wrap digits
is_a_loop_spends_the_budget = refl

is_a_do_loop_spends_the_budget : a_do_loop_spends_the_budget
unfolding int_wrap digits
is_a_do_loop_spends_the_budget = refl

is_a_do_loop_ends : a_do_loop_ends
unfolding int_wrap digits
is_a_do_loop_ends = refl

is_arguments_come_before_the_null_test : arguments_come_before_the_null_test
unfolding int_wrap digits
is_arguments_come_before_the_null_test = refl

is_the_file_reader : the_file_reader
unfolding int_wrap digits
is_the_file_reader = refl

is_the_counter : the_counter
unfolding int_wrap digits
is_the_counter = refl

is_the_linked_list : the_linked_list
unfolding int_wrap digits
is_the_linked_list = refl

is_arithmetic : arithmetic
unfolding int_wrap digits
is_arithmetic = refl

is_the_client : the_client
unfolding int_wrap digits
is_the_client = refl

is_the_server : the_server
unfolding int_wrap digits
is_the_server = refl

is_without_a_client : without_a_client
unfolding int_wrap digits
is_without_a_client = refl

is_the_client_is_slow : the_client_is_slow
unfolding int_wrap digits
is_the_client_is_slow = refl

is_the_client_says_more : the_client_says_more
unfolding int_wrap digits
is_the_client_says_more = refl

is_the_client_sends_a_text : the_client_sends_a_text
unfolding int_wrap digits
is_the_client_sends_a_text = refl

pub small : small_examples.All
small = record {
  skips_the_second_operand_holds = is_skips_the_second_operand;
  fields_begin_with_defaults_holds = is_fields_begin_with_defaults;
  least_int_wraps_holds = is_least_int_wraps;
  a_switch_falls_through_holds = is_a_switch_falls_through;
  continues_out_of_a_switch_holds = is_continues_out_of_a_switch;
  a_call_spends_the_budget_holds = is_a_call_spends_the_budget;
  a_call_has_a_budget_holds = is_a_call_has_a_budget;
  a_loop_spends_the_budget_holds = is_a_loop_spends_the_budget;
  a_do_loop_spends_the_budget_holds = is_a_do_loop_spends_the_budget;
  a_do_loop_ends_holds = is_a_do_loop_ends;
  arguments_come_before_the_null_test_holds = is_arguments_come_before_the_null_test;
}

pub programs : programs_examples.All
programs = record {
  the_file_reader_holds = is_the_file_reader;
  the_counter_holds = is_the_counter;
  the_linked_list_holds = is_the_linked_list;
  arithmetic_holds = is_arithmetic;
}

pub roles : roles_examples.All
roles = record {
  the_client_holds = is_the_client;
  the_server_holds = is_the_server;
  without_a_client_holds = is_without_a_client;
  the_client_is_slow_holds = is_the_client_is_slow;
  the_client_says_more_holds = is_the_client_says_more;
  the_client_sends_a_text_holds = is_the_client_sends_a_text;
}

pub followed : followed_examples.All
unfolding int_wrap digits
followed = record { calls_are = refl; lead_to_the_end = refl }
