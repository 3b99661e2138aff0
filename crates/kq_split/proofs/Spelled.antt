-- The lines of items and kqueues, piece by piece.
use Rattle.std.proofs.Common.{◌≡◌, ℕ, List, ◌++◌, codes, length, refl, append_assoc}
use Rattle.std.specs.Prelude.{decimal}
use Rattle.json.specs.Print.{escape_byte}
use Rattle.serde_json.specs.Written.{compact_text}
use Rattle.kq_model.specs.declared.object.Hint.{Hint}
use Rattle.kq_model.specs.declared.object.Hint.TheVariants as hint
use Rattle.kq_model.specs.declared.object.Target.{Target}
use Rattle.kq_model.specs.declared.object.Target.TheVariants as target
use Rattle.kq_model.specs.Spelling.{line_text, natural}
use Rattle.kq_projection.specs.declared.history.item.Item.{Item}
use Rattle.kq_projection.specs.declared.history.item.What.TheVariants.{Closed, Told, Clocked, Called}
use Rattle.kq_split.specs.Lines.{call_count, hint_data, kqueue_line, target_data, what_line}

pub close-is : (place pid number : ℕ) → what_line place (Closed pid number)
    ≡ codes "{\"at\":" ++ (decimal place ++ (codes ",\"close\":{\"fd\":" ++ (decimal number ++ (codes ",\"pid\":" ++ (decimal pid ++ codes "}}\n")))))
unfolding what_line natural line_text escape_byte
close-is place pid number = simp append_assoc

pub told-is : (place : ℕ) (t : Target) (h : Hint) → what_line place (Told t h)
    ≡ codes "{\"at\":" ++ (decimal place ++ (codes ",\"hint\":" ++ (compact_text (hint_data h)
    ++ (codes ",\"target\":" ++ (compact_text (target_data t) ++ codes "}\n")))))
unfolding what_line natural line_text escape_byte
told-is place t h = simp append_assoc

pub clock-is : (place from to : ℕ) → what_line place (Clocked from to)
    ≡ codes "{\"at\":" ++ (decimal place ++ (codes ",\"clock\":{\"from\":" ++ (decimal from ++ (codes ",\"to\":" ++ (decimal to ++ codes "}}\n")))))
unfolding what_line natural line_text escape_byte
clock-is place from to = simp append_assoc

pub call-is : (place kqueue : ℕ) → what_line place (Called kqueue)
    ≡ codes "{\"at\":" ++ (decimal place ++ (codes ",\"call\":" ++ (decimal kqueue ++ codes "}\n")))
unfolding what_line natural line_text escape_byte
call-is place kqueue = simp append_assoc

pub readable-is : compact_text (hint_data hint.Readable) ≡ codes "\"readable\""
unfolding hint_data escape_byte
readable-is = refl

pub writable-is : compact_text (hint_data hint.Writable) ≡ codes "\"writable\""
unfolding hint_data escape_byte
writable-is = refl

pub note-is : (bits : ℕ) → compact_text (hint_data (hint.Note bits)) ≡ codes "{\"note\":" ++ (decimal bits ++ codes "}")
unfolding hint_data natural escape_byte
note-is bits = simp append_assoc

pub delivered-is : compact_text (hint_data hint.Delivered) ≡ codes "\"delivered\""
unfolding hint_data escape_byte
delivered-is = refl

pub child-is : (pid : ℕ) → compact_text (hint_data (hint.Child pid)) ≡ codes "{\"child\":" ++ (decimal pid ++ codes "}")
unfolding hint_data natural escape_byte
child-is pid = simp append_assoc

pub socket-is : (place : ℕ) → compact_text (target_data (target.Socket place)) ≡ codes "{\"socket\":" ++ (decimal place ++ codes "}")
unfolding target_data natural escape_byte
socket-is place = simp append_assoc

pub pipe-is : (place : ℕ) → compact_text (target_data (target.Pipe place)) ≡ codes "{\"pipe\":" ++ (decimal place ++ codes "}")
unfolding target_data natural escape_byte
pipe-is place = simp append_assoc

pub open-is : (place : ℕ) → compact_text (target_data (target.Open place)) ≡ codes "{\"open\":" ++ (decimal place ++ codes "}")
unfolding target_data natural escape_byte
open-is place = simp append_assoc

pub file-is : (number : ℕ) → compact_text (target_data (target.File number)) ≡ codes "{\"file\":" ++ (decimal number ++ codes "}")
unfolding target_data natural escape_byte
file-is number = simp append_assoc

pub process-is : (pid : ℕ) → compact_text (target_data (target.Process pid)) ≡ codes "{\"pid\":" ++ (decimal pid ++ codes "}")
unfolding target_data natural escape_byte
process-is pid = simp append_assoc

pub own-is : compact_text (target_data target.Own) ≡ codes "\"own\""
unfolding target_data escape_byte
own-is = refl

pub signal-is : (pid signal : ℕ) → compact_text (target_data (target.Signal pid signal))
    ≡ codes "{\"pid\":" ++ (decimal pid ++ (codes ",\"sig\":" ++ (decimal signal ++ codes "}")))
unfolding target_data natural escape_byte
signal-is pid signal = simp append_assoc

pub kqueue-is : (place owner number : ℕ) (items : List Item) → kqueue_line place owner number items
    ≡ codes "{\"at\":" ++ (decimal place ++ (codes ",\"calls\":" ++ (decimal (call_count items) ++ (codes ",\"fd\":" ++ (decimal number
    ++ (codes ",\"items\":" ++ (decimal (length items) ++ (codes ",\"pid\":" ++ (decimal owner ++ codes "}\n")))))))))
unfolding kqueue_line natural line_text escape_byte
kqueue-is place owner number items = simp append_assoc
