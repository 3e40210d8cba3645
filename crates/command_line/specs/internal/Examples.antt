-- Texts of options that are values, and some that are none.
use Rattle.std.specs.Prelude.{◌≡◌, ℕ, [], ◌∷◌, Some, None, Ok, Err, codes, false, refl}
use Rattle.command_line.specs.declared.orders.Action.TheVariants.{Run}
use Rattle.command_line.specs.declared.start_memory.MemoryByte.{MemoryByte}
use Rattle.command_line.specs.declared.values.InputByte.{InputByte}
use Rattle.clap.specs.Words.{Text}
use Rattle.command_line.specs.internal.Orders.{usual}
use Rattle.command_line.specs.Settings.{NamedPort, fill_read, input_bytes, limit_number, memory_bytes, plan_number}
use Rattle.command_line.specs.Settings.{output_file, output_files_read, port_file, port_files_read, values_read}

usual_values : values_read (usual Run []) ≡ Ok (record {
  plan = record { code = 256; data_base = 16384; stack = 61440; stack_size = 1024 };
  limit = 10000000;
  input = [];
  fill = 0;
  memory = [];
  input_files = [];
  output_files = [];
  watch = record { count = false; until_dry = false; place = false };
})
usual_values = refl

greatest : plan_number (codes "65535") ≡ Ok 65535
greatest = refl

too_great : plan_number (codes "65536") ≡ Err (codes "65536")
too_great = refl

leading_zeros : plan_number (codes "000256") ≡ Ok 256
leading_zeros = refl

no_digit : plan_number [] ≡ Err []
no_digit = refl

a_sign : plan_number (codes "+5") ≡ Err (codes "+5")
a_sign = refl

an_underscore : plan_number (codes "1_0") ≡ Err (codes "1_0")
an_underscore = refl

a_blank : plan_number (codes "10 ") ≡ Err (codes "10 ")
a_blank = refl

greatest_limit : limit_number (codes "1000000000000") ≡ Ok 1000000000000
greatest_limit = refl

too_great_limit : limit_number (codes "1000000000001") ≡ Err (codes "1000000000001")
too_great_limit = refl

-- a byte of a port
abbrev of_port : ℕ → ℕ → InputByte
of_port port byte = record { port = port; byte = byte }

two_ports : input_bytes (codes "01:0904/02:FF")
    ≡ Some (of_port 1 9 ∷ of_port 1 4 ∷ of_port 2 255 ∷ [])
two_ports = refl

one_port_again : input_bytes (codes "fE:0a/00:/Fe:0B") ≡ Some (of_port 254 10 ∷ of_port 254 11 ∷ [])
one_port_again = refl

no_bytes : input_bytes (codes "01:") ≡ Some []
no_bytes = refl

an_empty_text : input_bytes [] ≡ None
an_empty_text = refl

an_empty_group : input_bytes (codes "01:09/") ≡ None
an_empty_group = refl

an_odd_digit : input_bytes (codes "01:090") ≡ None
an_odd_digit = refl

one_digit_of_a_port : input_bytes (codes "1:09") ≡ None
one_digit_of_a_port = refl

no_colon : input_bytes (codes "01-09") ≡ None
no_colon = refl

no_hexadecimal_digit : input_bytes (codes "01:0G") ≡ None
no_hexadecimal_digit = refl

a_fill : fill_read (codes "eF") ≡ Ok 239
a_fill = refl

a_long_fill : fill_read (codes "000") ≡ Err (codes "000")
a_long_fill = refl

no_fill : fill_read [] ≡ Err []
no_fill = refl

-- a byte of memory
abbrev at_address : ℕ → ℕ → MemoryByte
at_address address byte = record { address = address; byte = byte }

two_groups : memory_bytes (codes "0080:0261/005c:fF")
    ≡ Some (at_address 128 2 ∷ at_address 129 97 ∷ at_address 92 255 ∷ [])
two_groups = refl

the_last_byte : memory_bytes (codes "FFFF:07") ≡ Some (at_address 65535 7 ∷ [])
the_last_byte = refl

past_the_end : memory_bytes (codes "FFFF:0708") ≡ None
past_the_end = refl

no_bytes_of_memory : memory_bytes (codes "FFFF:") ≡ Some []
no_bytes_of_memory = refl

three_digits_of_an_address : memory_bytes (codes "080:02") ≡ None
three_digits_of_an_address = refl

an_odd_digit_of_memory : memory_bytes (codes "0080:022") ≡ None
an_odd_digit_of_memory = refl

-- the file of a port
abbrev file_at : ℕ → Text → NamedPort
file_at port name = record { port = port; name = name }

a_file : port_file (codes "fE:a:b") ≡ Some (file_at 254 (codes "a:b"))
a_file = refl

no_file_name : port_file (codes "00:") ≡ None
no_file_name = refl

three_digits_of_a_port : port_file (codes "000:a") ≡ None
three_digits_of_a_port = refl

no_colon_of_a_file : port_file (codes "00a") ≡ None
no_colon_of_a_file = refl

two_files : port_files_read (of_port 2 255 ∷ []) (codes "00:a" ∷ codes "01:-" ∷ [])
    ≡ Ok (file_at 0 (codes "a") ∷ file_at 1 (codes "/dev/stdin") ∷ [])
two_files = refl

a_port_twice : port_files_read [] (codes "00:a" ∷ codes "00:b" ∷ []) ≡ Err (codes "00:b")
a_port_twice = refl

a_port_of_the_input : port_files_read (of_port 0 255 ∷ []) (codes "00:a" ∷ []) ≡ Err (codes "00:a")
a_port_of_the_input = refl

a_dash_to_go_to : output_file (codes "01:-") ≡ Some (file_at 1 (codes "-"))
a_dash_to_go_to = refl

no_name_to_go_to : output_file (codes "01:") ≡ None
no_name_to_go_to = refl

two_to_go_to : output_files_read (codes "00:a" ∷ codes "01:b" ∷ []) ≡ Ok (file_at 0 (codes "a") ∷ file_at 1 (codes "b") ∷ [])
two_to_go_to = refl

one_port_to_two : output_files_read (codes "00:a" ∷ codes "00:b" ∷ []) ≡ Err (codes "00:b")
one_port_to_two = refl

two_ports_to_one : output_files_read (codes "00:-" ∷ codes "01:-" ∷ []) ≡ Err (codes "01:-")
two_ports_to_one = refl
