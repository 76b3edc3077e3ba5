-- The rows of the table, by parts.
use Rattle.std.proofs.Common.{◌≡◌, ℕ, List, [], ◌∷◌, ◌++◌, Bool, true, cond, codes, take, drop, Option, Some, None, refl, sym, ap, ◌∙◌}
use Rattle.std.specs.Prelude.{bytes_eq}
use Rattle.std.specs.Option.{unwrap_or}
use Rattle.m161_gdb.specs.declared.packet.Packet.{Packet}
use Rattle.m161_gdb.specs.declared.packet.Packet.TheVariants as packets
use Rattle.m161_gdb.specs.Packets.{Begins, Row, first_row, moves, of_description, of_lists, of_state, of_texts, of_thread_list, of_threads, or_else, packet_of, queries, row_gives, rows, two_numbers, with_two}
use Rattle.m161_gdb.specs.helpers.Rows.{short_row}

else_assoc : (a b d : Option Packet) → or_else (or_else a b) d ≡ or_else a (or_else b d)
else_assoc None b d = refl
else_assoc (Some p) b d = refl

rows_append : (xs ys : List Row) (body : List ℕ) → first_row (xs ++ ys) body ≡ or_else (first_row xs body) (first_row ys body)
rows_append [] ys body = refl
rows_append (row ∷ xs) ys body = ap (or_else (row_gives row body)) (rows_append xs ys body) ∙ sym (else_assoc (row_gives row body) (first_row xs body) (first_row ys body))

whole : (body : List ℕ) → first_row rows body ≡ or_else (short_row body) (first_row of_lists body)
whole body =
    rows_append moves (queries ++ of_threads ++ of_state ++ of_texts ++ of_description ++ of_thread_list ++ of_lists) body
    ∙ ap (or_else (first_row moves body)) (rows_append queries (of_threads ++ of_state ++ of_texts ++ of_description ++ of_thread_list ++ of_lists) body
    ∙ ap (or_else (first_row queries body)) (rows_append of_threads (of_state ++ of_texts ++ of_description ++ of_thread_list ++ of_lists) body
    ∙ ap (or_else (first_row of_threads body)) (rows_append of_state (of_texts ++ of_description ++ of_thread_list ++ of_lists) body
    ∙ ap (or_else (first_row of_state body)) (rows_append of_texts (of_description ++ of_thread_list ++ of_lists) body
    ∙ ap (or_else (first_row of_texts body)) (rows_append of_description (of_thread_list ++ of_lists) body
    ∙ ap (or_else (first_row of_description body)) (rows_append of_thread_list of_lists body))))))
    ∙ sym (else_assoc (first_row moves body) (or_else (first_row queries body) (or_else (first_row of_threads body) (or_else (first_row of_state body) (or_else (first_row of_texts body) (or_else (first_row of_description body) (first_row of_thread_list body)))))) (first_row of_lists body)
    ∙ ap (or_else (first_row moves body)) (else_assoc (first_row queries body) (or_else (first_row of_threads body) (or_else (first_row of_state body) (or_else (first_row of_texts body) (or_else (first_row of_description body) (first_row of_thread_list body))))) (first_row of_lists body)
    ∙ ap (or_else (first_row queries body)) (else_assoc (first_row of_threads body) (or_else (first_row of_state body) (or_else (first_row of_texts body) (or_else (first_row of_description body) (first_row of_thread_list body)))) (first_row of_lists body)
    ∙ ap (or_else (first_row of_threads body)) (else_assoc (first_row of_state body) (or_else (first_row of_texts body) (or_else (first_row of_description body) (first_row of_thread_list body))) (first_row of_lists body)
    ∙ ap (or_else (first_row of_state body)) (else_assoc (first_row of_texts body) (or_else (first_row of_description body) (first_row of_thread_list body)) (first_row of_lists body)
    ∙ ap (or_else (first_row of_texts body)) (else_assoc (first_row of_description body) (first_row of_thread_list body) (first_row of_lists body)))))))

else_unwrap : (a b : Option Packet) (p : Packet) → unwrap_or (or_else a b) p ≡ unwrap_or a (unwrap_or b p)
else_unwrap None b p = refl
else_unwrap (Some q) b p = refl

by_short : (body : List ℕ) → packet_of body ≡ unwrap_or (short_row body) (unwrap_or (first_row of_lists body) packets.Unknown)
by_short body = ap (λ o. unwrap_or o packets.Unknown) (whole body) ∙ else_unwrap (short_row body) (first_row of_lists body) packets.Unknown

pub found_short : (body : List ℕ) (packet : Packet) → Some packet ≡ short_row body → packet ≡ packet_of body
found_short body packet is = sym (by_short body ∙ ap (λ o. unwrap_or o (unwrap_or (first_row of_lists body) packets.Unknown)) (sym is))

pub found_list : (body : List ℕ) (packet : Packet) → None ≡ short_row body → packet ≡ unwrap_or (first_row of_lists body) packets.Unknown → packet ≡ packet_of body
found_list body packet none is = is ∙ sym (by_short body ∙ ap (λ o. unwrap_or o (unwrap_or (first_row of_lists body) packets.Unknown)) (sym none))

-- The rows whose texts are long.

abbrev after_description : List Row
after_description = Begins (codes "qXfer:features:read:") (λ rest. packets.Malformed) ∷ []

abbrev after_list : List Row
after_list = Begins (codes "qXfer:threads:read:") (λ rest. packets.Malformed) ∷ []

pub described : (body rest : List ℕ) (packet : Packet) → bytes_eq (take 31 body) (codes "qXfer:features:read:target.xml:") ≡ true → rest ≡ drop 31 body
    → packet ≡ with_two packets.Description (two_numbers rest) → Some packet ≡ first_row of_description body
described body rest packet begins is made =
    sym (ap (λ (t : Bool). or_else (cond t (Some (with_two packets.Description (two_numbers (drop 31 body)))) None) (first_row after_description body)) begins
    ∙ ap (λ p. Some p) (sym (made ∙ ap (λ bs. with_two packets.Description (two_numbers bs)) is)))

pub listed : (body rest : List ℕ) (packet : Packet) → bytes_eq (take 20 body) (codes "qXfer:threads:read::") ≡ true → rest ≡ drop 20 body
    → packet ≡ with_two packets.ThreadList (two_numbers rest) → Some packet ≡ first_row of_thread_list body
listed body rest packet begins is made =
    sym (ap (λ (t : Bool). or_else (cond t (Some (with_two packets.ThreadList (two_numbers (drop 20 body)))) None) (first_row after_list body)) begins
    ∙ ap (λ p. Some p) (sym (made ∙ ap (λ bs. with_two packets.ThreadList (two_numbers bs)) is)))
