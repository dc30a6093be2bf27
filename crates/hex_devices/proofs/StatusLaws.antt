-- Each status is that of one end.
use Rattle.std.proofs.Common.{◌≡◌, ◌==◌, ◌∙◌, ℕ, if◌then◌else◌, refl, sym, ap}
use Rattle.hex_devices.specs.Statuses.{status_of}
use Rattle.hex_devices.specs.declared.ends.End.{End}
use Rattle.hex_devices.specs.declared.ends.End.TheVariants.{Done, Rejected, Usage, Stopped}
use Rattle.hex_devices.specs.declared.stops.Stop.TheVariants.{ReadFault, WriteFault, Memory}
use Rattle.hex_devices.specs.declared.stops.Stop.TheVariants.{TooLong, ArchiveFault}

end_numbered : ℕ → End
end_numbered n
    = if n == 0 then Done else if n == 1 then Rejected else if n == 2 then Usage else if n == 3 then Stopped ReadFault
    else if n == 4 then Stopped WriteFault else if n == 5 then Stopped Memory else if n == 6 then Stopped TooLong else Stopped ArchiveFault

end_of_status : (end : End) → end_numbered (status_of end) ≡ end
unfolding end_numbered
end_of_status Done = refl
end_of_status Rejected = refl
end_of_status Usage = refl
end_of_status (Stopped ReadFault) = refl
end_of_status (Stopped WriteFault) = refl
end_of_status (Stopped Memory) = refl
end_of_status (Stopped TooLong) = refl
end_of_status (Stopped ArchiveFault) = refl

-- each status is that of one end
pub same_end : (a b : End) → status_of a ≡ status_of b → a ≡ b
same_end a b e = sym (end_of_status a) ∙ ap end_numbered e ∙ end_of_status b
