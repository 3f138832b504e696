-- The limits of document 01, each once and by name; one that follows from others is computed from them.
-- Assumes nothing.
use Rattle.std.specs.Prelude.{ℕ, ◌+◌, ◌*◌, ◌/◌}

-- ---- the slot book

-- the slots of a frame, which is one minute
abbrev pub frame_slots : ℕ
frame_slots = 2250

-- nine frames ahead
abbrev pub slot_times : ℕ
slot_times = 9 * frame_slots

-- the station records of a register
abbrev pub records : ℕ
records = 255

-- ---- the plan and the choice

-- the most reports in a frame
abbrev pub most_rate : ℕ
most_rate = 30

-- a window of one report a frame reaches a tenth of a frame to each side: no window is wider
abbrev pub tenth : ℕ
tenth = frame_slots / 10

abbrev pub widest : ℕ
widest = 2 * tenth + 1

-- a slot of ours is chosen for so many frames after it, at the least and at the most; no state announces more
abbrev pub least_time_out : ℕ
least_time_out = 3

abbrev pub most_time_out : ℕ
most_time_out = 7

-- a station whose mark was replaced is held off for so many slots
abbrev pub hold_off : ℕ
hold_off = frame_slots

-- ---- packets

-- the most bytes of a payload; all other limits of packets follow from it
abbrev pub payload_bytes : ℕ
payload_bytes = 21

-- flags and check, in bits
abbrev pub flag_bits : ℕ
flag_bits = 8

abbrev pub check_bits : ℕ
check_bits = 16

-- the bits of payload and check before any 0 is put in, at the least and at the most
abbrev pub least_checked : ℕ
least_checked = 8 + check_bits

abbrev pub most_checked : ℕ
most_checked = 8 * payload_bytes + check_bits

-- the bits between the flags at the most: a 0 is put in after every five
abbrev pub most_body : ℕ
most_body = most_checked + most_checked / 5

-- the bits of a packet, at the least and at the most
abbrev pub least_packet : ℕ
least_packet = flag_bits + least_checked + flag_bits

abbrev pub most_packet : ℕ
most_packet = flag_bits + most_body + flag_bits

-- ---- messages

-- the bytes of a message
abbrev pub message_bytes : ℕ
message_bytes = 21

-- the places of the list of numbers that a message becomes for a C program: the longest is a base station's with hour and minute
abbrev pub list_places : ℕ
list_places = 21

-- ---- lines

-- the digits of a number of 64 bits at the most; the room of a number with the space before it; the room of a line: a word, four numbers, an end
abbrev pub most_digits : ℕ
most_digits = 20

abbrev pub number_room : ℕ
number_room = most_digits + 1

abbrev pub line_room : ℕ
line_room = 4 * number_room + 12
